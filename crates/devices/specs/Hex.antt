-- Texts as lines of hexadecimal digits, and back. Assumes nothing.
use Rattle.std.specs.Prelude.{◌≡◌, ℕ, ◌+◌, ◌-◌, ◌*◌, ◌/◌, ◌%◌, ◌<◌, Bool, true, false, cond, ◌||◌, List, [], ◌∷◌, ◌++◌, ◌==◌, nat_lt}
use Rattle.std.specs.Int.{is_in_range}
use Rattle.std.specs.List.{AllByRecursion, flat_map}

-- The upper-case hexadecimal digit of a number below 16, and the number of such a digit.
abbrev pub digit : ℕ → ℕ
digit n = cond (nat_lt n 10) (48 + n) (55 + n)

abbrev pub number : ℕ → ℕ
number d = cond (nat_lt d 65) (d - 48) (d - 55)

-- Two digits for each byte.
abbrev pub hex : List ℕ → List ℕ
hex [] = []
hex (b ∷ bs) = digit (b / 16) ∷ digit (b % 16) ∷ hex bs

-- What a text is written as: its digits, closed by byte 10. An empty text is written as nothing.
abbrev pub line : List ℕ → List ℕ
line [] = []
line (b ∷ bs) = hex (b ∷ bs) ++ 10 ∷ []

-- Encoding: texts, a line for each.
abbrev pub page : List (List ℕ) → List ℕ
page [] = []
page (text ∷ texts) = (hex text ++ 10 ∷ []) ++ page texts

-- Decoding: a byte 10 ends a text, and any other two bytes are the digits of the byte that comes first in its text.
abbrev pub onto_first : ℕ → List (List ℕ) → List (List ℕ)
onto_first b [] = (b ∷ []) ∷ []
onto_first b (text ∷ texts) = (b ∷ text) ∷ texts

abbrev pub texts_of : List ℕ → List (List ℕ)
texts_of [] = []
texts_of (x ∷ []) = cond (x == 10) ([] ∷ []) []
texts_of (x ∷ y ∷ rest) = cond (x == 10) ([] ∷ texts_of (y ∷ rest)) (onto_first (16 * number x + number y) (texts_of rest))

-- The bytes of the texts to which something decodes, joined, and the page of these texts.
abbrev pub joined_texts : List ℕ → List ℕ
joined_texts w = flat_map (λ text. text) (texts_of w)

abbrev pub page_again : List ℕ → List ℕ
page_again w = page (texts_of w)

abbrev pub is_digit : ℕ → Bool
is_digit d = is_in_range 48 57 d || is_in_range 65 70 d

-- `IsPage w`: w is lines of upper-case hexadecimal digits, two and two, each line closed by byte 10.
-- `Digits b w`: w is that from here on, where b says whether a line begins here.
pub data Digits : Bool → List ℕ → Type 0 where
  done : Digits true []
  closes : {b : Bool} {w : List ℕ} → Digits true w → Digits b (10 ∷ w)
  pair : {b : Bool} {x y : ℕ} {w : List ℕ} → is_digit x ≡ true → is_digit y ≡ true → Digits false w → Digits b (x ∷ y ∷ w)

abbrev pub IsPage : List ℕ → Type 0
IsPage w = Digits true w

-- Encoding and decoding are inverse: texts of bytes come back from their page, and a page from its texts.
pub record Inverse : Type 0 where
  pub texts : (texts : List (List ℕ)) → AllByRecursion (AllByRecursion (λ b. b < 256)) texts → texts_of (page texts) ≡ texts
  pub pages : (w : List ℕ) → IsPage w → page (texts_of w) ≡ w
