use Rattle.brl_stream.proofs.KnownBytes.{put_more}
use Rattle.brl_stream.proofs.device.CountingOutput.put.Goals as goal

pub loop-rest-preserved : goal.loop-rest-preserved
loop-rest-preserved g c =
    (put_more _ _ _ _ c.loop-rest.invariant.0.0 _ c.in-Ok.count c.loop-rest.invariant.0.1 c.loop-rest.invariant.0.2 c.in-Ok.ensures.bytes, c.loop-rest.invariant.1)
