use Rattle.std.proofs.Common.{rules}
use Rattle.brl_rules.proofs.SignLists.{each-few}
use Rattle.brl_rules.proofs.signs.Indicators.are_few.Goals as goal

pub returns : goal.returns
returns c = each-few c.args.self.now c.args.most c.all.result (search rules) (search rules)
