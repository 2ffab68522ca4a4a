-- Which form a text has.
use Rattle.std.proofs.Common.{◌≡◌, ℕ, Bool, true, false, List, Option, Some, None, if◌then◌else◌, refl}
use Rattle.json_bytes.specs.Marks.{begins, past_space}
use Rattle.tape_import.specs.Asciicast.{header_of, version_of}
use Rattle.tape_import.specs.Form.{form_by, form_of, form_of_line, is_message, is_ttyrec}
use Rattle.tape_import.specs.declared.form.Form.{Form}
use Rattle.tape_import.specs.declared.form.Form.TheVariants as form
use Rattle.tape_import.specs.declared.version.Version.{Version}

-- by its first line no text is a ttyrec
no_line : (version : Option Version) (message : Bool) → form_by version message ≡ form.Ttyrec → ⊥
no_line (Some version) message is = cc
no_line None true is = cc
no_line None false is = cc

by_head : (head brace : Bool) (line : Form) → (line ≡ form.Ttyrec → ⊥) → (if head then form.Ttyrec else if brace then line else form.Unknown) ≡ form.Ttyrec
    → head ≡ true
by_head true brace line never is = refl
by_head false true line never is = absurd (never is)
by_head false false line never is = cc

-- so it is one by its head
pub ttyrec_by_head : (text : List ℕ) → form_of text ≡ form.Ttyrec → is_ttyrec text ≡ true
ttyrec_by_head text is =
    by_head (is_ttyrec text) (begins 123 (past_space text)) (form_of_line (header_of text)) (no_line (version_of (header_of text)) (is_message (header_of text))) is
