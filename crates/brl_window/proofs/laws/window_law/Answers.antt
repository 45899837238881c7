use Rattle.brl_window.proofs.Stepping.{listed-IsStep, IsStep-listed}
use Rattle.brl_window.proofs.laws.window_law.Goals as goal

pub returns : goal.returns
returns c t s x = (listed-IsStep t s x, IsStep-listed t s x)
