-- The test of each form decides the rule of the form.
use Rattle.std.proofs.Common.{◌≡◌, ℕ, ◌≤◌, not, ◌⊎◌, List, Decides, refl}
use Rattle.std.proofs.lemmas.Bool.Decides.{Decides-not, Decides-and, Decides-like}
use Rattle.x12.specs.Class.{class_of}
use Rattle.std.specs.List.{list_all, list_any}
use Rattle.value.specs.declared.forms.Form.TheVariants.{N0, Q, Id, An, R, D8, D6, Tm, Spaces, Free}
use Rattle.value.specs.Texts.{code_byte, text_byte, is_space, text}
use Rattle.value.specs.Means.{Text, TypesMean}
use Rattle.value.proofs.Bytes.{digits_decides, code_decides, text_decides, space_decides, every_decides, some_decides}
use Rattle.value.proofs.Calendar.{day8_decides, day6_decides, time_decides}
use Rattle.value.proofs.Signs.{decimal_decides}

-- a text
whole_text_decides : (v : List ℕ) → Decides (text v) (Text v)
whole_text_decides v =
    Decides-like (text v) (λ h. record { bytes = h.0; filled = h.1 }) (λ h. (h.bytes, h.filled))
    (Decides-and (list_all text_byte v) (list_any (λ b. not (is_space b)) v)
    (every_decides text_byte (λ b. (1 ≤ class_of b) × (class_of b ≤ 5)) text_decides v)
    (some_decides (λ b. not (is_space b)) (λ b. b ≡ 32 → ⊥) (λ b. Decides-not (is_space b) (space_decides b)) v))

-- each form
pub types_mean : TypesMean
types_mean N0 v = digits_decides v
types_mean Q v = digits_decides v
types_mean Id v = every_decides code_byte (λ b. (class_of b ≡ 1) ⊎ (class_of b ≡ 2)) code_decides v
types_mean An v = whole_text_decides v
types_mean R v = decimal_decides v
types_mean D8 v = day8_decides v
types_mean D6 v = day6_decides v
types_mean Tm v = time_decides v
types_mean Spaces v = every_decides is_space (λ b. b ≡ 32) space_decides v
types_mean Free v = (λ h. tt, λ h. refl)
