use Rattle.std.proofs.Common.{◌≡◌, take}
use Rattle.std.specs.Prelude.{fold}
use Rattle.vt_term.specs.Rows.{named}
use Rattle.vt_term.specs.PrivateModes.{private_modes}
use Rattle.vt_term.specs.Played.{mode_by_reset}
use Rattle.vt_term.proofs.played.mode_by_resets.Given as goal

abbrev pub invariant-loop-param : goal.invariant-loop-param
invariant-loop-param l =
    l.left ≡ fold (λ left param. mode_by_reset (named private_modes param) left) l.initial.left (take l.param-index l.params)
