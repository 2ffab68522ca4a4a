-- Which terminal is played.
use Rattle.std.specs.Prelude.{Bool, true, false}
use Rattle.vt_term.specs.declared.profile.Profile.{Profile}
use Rattle.vt_term.specs.declared.profile.Profile.TheVariants.{Vt100, Vt102}

-- IL, DL, DCH and insert mode are the VT102's (VT102 User Guide); a VT100 has none of them (EK-VT100-UG chapter 3)
abbrev pub has_editing : Profile → Bool
has_editing Vt100 = false
has_editing Vt102 = true
