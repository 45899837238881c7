use Rattle.std.proofs.Common.{rules, ap, refl}
use Rattle.std.proofs.lemmas.Result.{on_ok_weaker}
use Rattle.brl_answers.proofs.FilesLemmas.{gives_held, stays_where_held, told_there}
use Rattle.brl_lines.specs.Answer.{answer_of, same_answer}
use Rattle.brl_answers.proofs.files.MapSourceFiles.TheImpl.Goals as goal

pub is_there-tells : goal.is_there-tells
is_there-tells c = told_there c.args.self.now c.args.path.now c.result c.ensures

pub create-tells : goal.create-tells
create-tells c = record {
  made = on_ok_weaker c.result (gives_held c.new.self.now c.args.path.now c.args.bytes.now) c.ensures.made;
  absent = search rules;
  there = stays_where_held c.args.self.now c.new.self.now c.args.path.now c.result c.ensures.absent c.ensures.folders c.ensures.unchanged;
  others = (c.ensures.folders, λ p a differ. ap (λ found. same_answer a (answer_of found)) (c.ensures.others p differ));
  count = refl;
}
