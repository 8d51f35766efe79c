-- Encoding and decoding are inverse. Assumes nothing.
use Rattle.std.proofs.Common.{◌≡◌, ℕ, ◌+◌, ◌*◌, ◌/◌, ◌%◌, ◌<◌, Bool, true, false, eqb, List, [], ◌∷◌, ◌++◌, map, length, sym, refl, ap, ◌∙◌, append_assoc, append-nil, arith, length-append}
use Rattle.std.specs.List.{AllByRecursion}
use Rattle.std.proofs.lemmas.Bool.Decides.{nat_tests}
use Rattle.std.proofs.lemmas.Bool.{cond-false}
use Rattle.devices.specs.Hex.{digit, number, hex, line, page, onto_first, texts_of, is_digit, Digits, done, closes, pair, Inverse}

-- what comes back of a byte, and of a text
abbrev back : ℕ → ℕ
back b = 16 * number (digit (b / 16)) + number (digit (b % 16))

digit_no_end : (n : ℕ) → eqb (digit n) 10 ≡ false
digit_no_end n = grind (arith, nat_tests)

number-digit : (n : ℕ) → n < 16 → number (digit n) ≡ n
number-digit n h = grind (arith, nat_tests)

texts_end : (w : List ℕ) → texts_of (10 ∷ w) ≡ [] ∷ texts_of w
texts_end [] = refl
texts_end (x ∷ w) = refl

texts_byte : (b : ℕ) (w : List ℕ) → texts_of (digit (b / 16) ∷ digit (b % 16) ∷ w) ≡ onto_first (back b) (texts_of w)
texts_byte b w = cond-false _ _ _ (digit_no_end (b / 16))

texts_line : (t w : List ℕ) → texts_of (hex t ++ 10 ∷ w) ≡ map back t ∷ texts_of w
texts_line [] w = texts_end w
texts_line (b ∷ t) w = texts_byte b (hex t ++ 10 ∷ w) ∙ ap (onto_first (back b)) (texts_line t w)

texts_page : (ts : List (List ℕ)) (w : List ℕ) → texts_of (page ts ++ w) ≡ map (map back) ts ++ texts_of w
texts_page [] w = refl
texts_page (t ∷ ts) w =
    ap texts_of (append_assoc (hex t ++ 10 ∷ []) (page ts) w ∙ append_assoc (hex t) (10 ∷ []) (page ts ++ w))
    ∙ texts_line t (page ts ++ w)
    ∙ ap (λ l. map back t ∷ l) (texts_page ts w)

back_byte : (b : ℕ) → b < 256 → back b ≡ b
back_byte b h =
    let high = number-digit (b / 16) (omega arith) in
    let low = number-digit (b % 16) (omega arith) in
    omega arith

back_text : (t : List ℕ) → AllByRecursion (λ b. b < 256) t → map back t ≡ t
back_text [] h = refl
back_text (b ∷ t) h = ap (λ c. c ∷ map back t) (back_byte b h.0) ∙ ap (λ l. b ∷ l) (back_text t h.1)

back_texts : (ts : List (List ℕ)) → AllByRecursion (AllByRecursion (λ b. b < 256)) ts → map (map back) ts ≡ ts
back_texts [] h = refl
back_texts (t ∷ ts) h = ap (λ c. c ∷ map (map back) ts) (back_text t h.0) ∙ ap (λ l. t ∷ l) (back_texts ts h.1)

texts_of-page : (ts : List (List ℕ)) → AllByRecursion (AllByRecursion (λ b. b < 256)) ts → texts_of (page ts) ≡ ts
texts_of-page ts h =
    ap texts_of (sym (append-nil (page ts))) ∙ texts_page ts [] ∙ append-nil (map (map back) ts) ∙ back_texts ts h

-- a pair of digits and the byte that it stands for
number_below : (d : ℕ) → is_digit d ≡ true → number d < 16
number_below d h = grind (arith, nat_tests)

digit-number : (d : ℕ) → is_digit d ≡ true → digit (number d) ≡ d
digit-number d h = grind (arith, nat_tests)

digit_open : (d : ℕ) → is_digit d ≡ true → eqb d 10 ≡ false
digit_open d h = grind (arith, nat_tests)

module _ (x y : ℕ) (hx : is_digit x ≡ true) (hy : is_digit y ≡ true) where
  high : digit ((16 * number x + number y) / 16) ≡ x
  high =
      let small = number_below y hy in
      let quotient : (16 * number x + number y) / 16 ≡ number x = omega arith in
      ap digit quotient ∙ digit-number x hx

  low : digit ((16 * number x + number y) % 16) ≡ y
  low =
      let small = number_below y hy in
      let remainder : (16 * number x + number y) % 16 ≡ number y = omega arith in
      ap digit remainder ∙ digit-number y hy

  pair_open : (w : List ℕ) → texts_of (x ∷ y ∷ w) ≡ onto_first (16 * number x + number y) (texts_of w)
  pair_open w = cond-false _ _ _ (digit_open x hx)

-- within a line a text begins
first_text : {w : List ℕ} → Digits false w → (t : List ℕ) × (ts : List (List ℕ)) × (texts_of w ≡ t ∷ ts)
first_text (closes {w = w} d) = ([], texts_of w, texts_end w)
first_text (pair {x = x} {y = y} {w = w} hx hy d) =
    let rest = first_text d in
    ((16 * number x + number y) ∷ rest.0, rest.1, pair_open x y hx hy w ∙ ap (onto_first (16 * number x + number y)) rest.2)

page_back : {b : Bool} {w : List ℕ} → Digits b w → page (texts_of w) ≡ w
page_back done = refl
page_back (closes {w = w} d) = ap page (texts_end w) ∙ ap (λ l. 10 ∷ l) (page_back d)
page_back (pair {x = x} {y = y} {w = w} hx hy d) =
    let rest = first_text d in
    ap page (pair_open x y hx hy w)
    ∙ ap (λ l. page (onto_first (16 * number x + number y) l)) rest.2
    ∙ (λ i. high x y hx hy i ∷ low x y hx hy i ∷ page (rest.0 ∷ rest.1))
    ∙ ap (λ l. x ∷ y ∷ page l) (sym rest.2)
    ∙ ap (λ l. x ∷ y ∷ l) (page_back d)

pub inverse : Inverse
inverse = record { texts = texts_of-page; pages = λ w p. page_back p }

-- a line more on a page
module _ (w : List ℕ) (whole : page (texts_of w) ≡ w) (t : List ℕ) (bytes : AllByRecursion (λ b. b < 256) t) where
  same_texts : map (map back) (texts_of w) ≡ texts_of w
  same_texts =
      sym (append-nil _) ∙ sym (texts_page (texts_of w) []) ∙ ap texts_of (append-nil (page (texts_of w)) ∙ whole)

  pub texts_more : texts_of (w ++ (hex t ++ 10 ∷ [])) ≡ texts_of w ++ t ∷ []
  texts_more =
      ap (λ l. texts_of (l ++ (hex t ++ 10 ∷ []))) (sym whole)
      ∙ texts_page (texts_of w) (hex t ++ 10 ∷ [])
      ∙ ap (λ l. l ++ texts_of (hex t ++ 10 ∷ [])) same_texts
      ∙ ap (λ l. texts_of w ++ l) (texts_line t [] ∙ ap (λ l. l ∷ []) (back_text t bytes))

page_push : (ts : List (List ℕ)) (t : List ℕ) → page (ts ++ t ∷ []) ≡ page ts ++ (hex t ++ 10 ∷ [])
page_push [] t = append-nil _
page_push (s ∷ ts) t = ap (λ l. hex s ++ 10 ∷ [] ++ l) (page_push ts t) ∙ sym (append_assoc (hex s ++ 10 ∷ []) (page ts) (hex t ++ 10 ∷ []))

pub page_more : (w : List ℕ) → page (texts_of w) ≡ w → (t : List ℕ) → AllByRecursion (λ b. b < 256) t → page (texts_of (w ++ (hex t ++ 10 ∷ []))) ≡ w ++ (hex t ++ 10 ∷ [])
page_more w whole t bytes =
    ap page (texts_more w whole t bytes) ∙ page_push (texts_of w) t ∙ ap (λ l. l ++ (hex t ++ 10 ∷ [])) whole

pub length-hex : (t : List ℕ) → length (hex t) ≡ 2 * length t
length-hex [] = refl
length-hex (b ∷ t) = let more = length-hex t in omega arith

pub hex_push : (t : List ℕ) (b : ℕ) → hex (t ++ b ∷ []) ≡ hex t ++ (digit (b / 16) ∷ digit (b % 16) ∷ [])
hex_push [] b = refl
hex_push (x ∷ t) b = ap (λ l. digit (x / 16) ∷ digit (x % 16) ∷ l) (hex_push t b)

pub line_some : (t : List ℕ) → 0 < length t → line t ≡ hex t ++ 10 ∷ []
line_some [] h = absurd (omega arith)
line_some (b ∷ t) h = refl

pub length-line : (t : List ℕ) → 0 < length t → length (line t) ≡ 2 * length t + 1
length-line t some = ap length (line_some t some) ∙ length-append (hex t) (10 ∷ []) ∙ ap (λ n. n + 1) (length-hex t)
