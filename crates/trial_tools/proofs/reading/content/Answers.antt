-- `trial_tools::reading::content` leaves a line as it is, or without the line feed behind it.
use Rattle.std.proofs.Common.{rules, [], ◌∷◌}
use Rattle.std.proofs.lemmas.Bool.Decides.{Decides-eqb}
use Rattle.std.proofs.lemmas.Slice.Eq.{strip_suffix_is}
use Rattle.trial_tools.proofs.reading.content.Goals as goal

pub returns : goal.returns
returns c =
    let h = strip_suffix_is Decides-eqb c.args.line.now (10 ∷ []) c.strip_suffix.result c.strip_suffix.ensures.cases in
    let u = c.unwrap_or.ensures in
    search rules
