use Rattle.std.proofs.Common.{map, string_bytes}
use Rattle.brl_lines.specs.InMemory.{given_in}
use Rattle.brl_cut.specs.Files.{file_view}
use Rattle.brl_cut.proofs.RoundLemmas.{gives-loaded}
use Rattle.brl_cut.proofs.files.load_files.Goals as goal

pub returns : goal.returns
returns c =
    let source = c.in_ok-source.source in
    let root = c.args.root.now in
    gives-loaded (map string_bytes c.args.folders.now) (map file_view c.args.files.now) source root (given_in source) c.in_ok-source.ensures (c.files_in_memory_law.ensures.told root) c.load.result c.load.ensures.lines c.load.ensures.fault
