use Rattle.std.proofs.Common.{◌≡◌, ◌≤◌, ◌∙◌, arith, false, sym}
use Rattle.vt_screen.specs.declared.cell.Size.{Size}
use Rattle.vt_screen.specs.declared.cell.Size.TheVariants.{Single, Double, Top, Bottom}
use Rattle.vt_screen.specs.Picture.{margin_of}
use Rattle.screen_print.proofs.still.copy_narrow.Goals as goal

in_front : (size : Size) → margin_of false size ≤ 80
in_front Single = omega arith
in_front Double = omega arith
in_front Top = omega arith
in_front Bottom = omega arith

pub copy_front-requires : goal.copy_front-requires
copy_front-requires c = λ column past.
    c.requires.old.blank_right column (omega (arith, in_front c.args.row.now.size))
    ∙ sym (c.requires.other.blank_right column (omega (arith, in_front c.args.other.now.size)))
