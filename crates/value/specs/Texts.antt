-- Codes, texts and spaces.
use Rattle.std.specs.Prelude.{ℕ, Bool, not, ◌&&◌, List, ◌==◌}
use Rattle.x12.specs.Class.{within, class_of}
use Rattle.std.specs.List.{list_all, list_any}

-- a byte of a code is of class 1 or 2: a capital letter or a digit
abbrev pub code_byte : ℕ → Bool
code_byte b = within 1 2 (class_of b)

-- a byte of a text is of class 1 to 5: one that can be printed
abbrev pub text_byte : ℕ → Bool
text_byte b = within 1 5 (class_of b)

-- the space is the byte 32
abbrev pub is_space : ℕ → Bool
is_space b = b == 32

-- each byte may stand in a code
abbrev pub code : List ℕ → Bool
code v = list_all code_byte v

-- each byte may stand in a text, and one at least is no space
abbrev pub text : List ℕ → Bool
text v = list_all text_byte v && list_any (λ b. not (is_space b)) v

-- each byte is a space
abbrev pub spaces : List ℕ → Bool
spaces v = list_all is_space v
