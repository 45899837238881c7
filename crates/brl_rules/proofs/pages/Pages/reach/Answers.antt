use Rattle.std.proofs.Common.{◌/◌, ◌%◌, ap, ◌∙◌}
use Rattle.std.specs.Prelude.{slice_index_or}
use Rattle.brl_rules.proofs.PageSteps.{page_at, page-more}
use Rattle.brl_rules.proofs.pages.Pages.reach.Goals as goal

pub loop-alloc-preserved : goal.loop-alloc-preserved
loop-alloc-preserved c = λ x.
    ap (λ pages. slice_index_or (page_at pages (x / 256)) (x % 256) 65535) c.in_ok-push.ensures.items
    ∙ ap (λ items. slice_index_or items (x % 256) 65535) (page-more c.loop-alloc.self.pages.items c.new.result c.new.ensures.items (x / 256))
    ∙ c.loop-alloc.invariant x
