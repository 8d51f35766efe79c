-- A descriptor's letters determine it, and what the bytes of a text say of the signatures that are spelled so. Assumes
-- nothing.
use Rattle.std.proofs.Common.{cond, eqb, ◌≡◌, ℕ, ◌+◌, ◌-◌, ◌<◌, ◌≤◌, List, [], ◌∷◌, ◌++◌, map, length, get_or, take, drop, set, None, Option, Result, Ok, Err, sym, refl, ap, ◌∙◌, subst, append_assoc, arith, length-append}
use Rattle.std.proofs.Math.Seq.{get_or-append_seam}
use Rattle.std.proofs.lemmas.List.{drop-drop, drop_all, drop_more, get_or-map, length-map, map_push, same_from_push, take-append-drop, take_more, take_more_set}
use Rattle.std.specs.Result.{IsErr, result_ok}
use Rattle.std.proofs.lemmas.List.Sums.{sum_by-cons}
use Rattle.bytecode.specs.Descriptors.{Signature, SpellsOnce, letter, number_of, registers_of, return_letter, spelled}
use Rattle.bytecode.specs.Kinds.{size}
use Rattle.bytecode.specs.declared.descriptor.FieldType.{FieldType}
use Rattle.bytecode.specs.declared.descriptor.FieldType.TheVariants.{Char, Short, Int, Long}
use Rattle.bytecode.specs.declared.descriptor.ReturnType.{ReturnType}
use Rattle.bytecode.specs.declared.descriptor.ReturnType.TheVariants.{Void, Value}

-- a letter stands for one type, since the type can be told from it
abbrev type_of : ℕ → FieldType
type_of byte = cond (eqb byte 67) Char (cond (eqb byte 83) Short (cond (eqb byte 73) Int Long))

type_told : (t : FieldType) → type_of (letter t) ≡ t
type_told Char = refl
type_told Short = refl
type_told Int = refl
type_told Long = refl

types_told : (ts : List FieldType) → map type_of (map letter ts) ≡ ts
types_told [] = refl
types_told (t ∷ ts) = λ k. type_told t k ∷ types_told ts k

pub letters_same : (ts us : List FieldType) → map letter ts ≡ map letter us → ts ≡ us
letters_same ts us e = sym (types_told ts) ∙ ap (map type_of) e ∙ types_told us

abbrev return_type_of : ℕ → ReturnType
return_type_of byte = cond (eqb byte 86) Void (Value (type_of byte))

return_type_told : (t : ReturnType) → return_type_of (return_letter t) ≡ t
return_type_told Void = refl
return_type_told (Value Char) = refl
return_type_told (Value Short) = refl
return_type_told (Value Int) = refl
return_type_told (Value Long) = refl

return_letter_same : (t u : ReturnType) → return_letter t ≡ return_letter u → t ≡ u
return_letter_same t u e = sym (return_type_told t) ∙ ap return_type_of e ∙ return_type_told u

size_above : (t : FieldType) → 1 ≤ size (number_of t)
size_above Char = omega arith
size_above Short = omega arith
size_above Int = omega arith
size_above Long = omega arith

-- a text in parentheses, with one byte after them, spells a signature by its parts
pub parts : (s : Signature) (letters : List ℕ) (byte : ℕ) → spelled s ≡ 40 ∷ (letters ++ 41 ∷ byte ∷ []) → (map letter s.parameters ≡ letters) × (return_letter s.result ≡ byte)
parts s letters byte e =
    let tails : map letter s.parameters ++ 41 ∷ return_letter s.result ∷ [] ≡ letters ++ 41 ∷ byte ∷ [] = cc in
    let last = same_from_push (map letter s.parameters ++ 41 ∷ []) (letters ++ 41 ∷ []) (return_letter s.result) byte (append_assoc (map letter s.parameters) (41 ∷ []) _ ∙ tails ∙ sym (append_assoc letters (41 ∷ []) _)) in
    ((same_from_push (map letter s.parameters) letters 41 41 last.0).0, last.1)

pub spells_once : SpellsOnce
spells_once s t e =
    let same = parts s (map letter t.parameters) (return_letter t.result) e in
    λ k. record { parameters = letters_same s.parameters t.parameters same.0 k; result = return_letter_same s.result t.result same.1 k }

-- parameters take a register at least
pub length_within : (ts : List FieldType) → length ts ≤ registers_of ts
length_within [] = omega arith
length_within (t ∷ ts) = omega (arith, size_above t, sum_by-cons (λ t. size (number_of t)) t ts, length_within ts)

-- the text that such bytes make
abbrev enclosed : List ℕ → ℕ → List ℕ
enclosed letters byte = 40 ∷ (letters ++ 41 ∷ byte ∷ [])

-- a text that spells a signature has both parentheses in their places
pub outline : (s : Signature) (text : List ℕ) → spelled s ≡ text → (3 ≤ length text) × (get_or text 0 0 ≡ 40) × (get_or text (length text - 2) 0 ≡ 41)
outline s text e =
    let letters = map letter s.parameters in
    let long : length text ≡ length letters + 3 = ap length (sym e) ∙ omega (arith, length-append letters (41 ∷ return_letter s.result ∷ [])) in
    let place : length text - 2 ≡ length (40 ∷ letters) = omega arith in (
      omega arith,
      ap (λ l. get_or l 0 0) (sym e),
      ap (λ l. get_or l (length text - 2) 0) (sym e) ∙ ap (λ n. get_or (spelled s) n 0) place ∙ get_or-append_seam (40 ∷ letters) 41 (return_letter s.result ∷ []) 0,
    )

-- and one with both is made of what stands between them and of its last byte
pub made : (text : List ℕ) → 3 ≤ length text → get_or text 0 0 ≡ 40 → get_or text (length text - 2) 0 ≡ 41 → text ≡ enclosed (take (length text - 2 - 1) (drop 1 text)) (get_or text (length text - 1) 0)
made text long opens closes =
    let n = length text - 2 - 1 in
    let inner = drop 1 text in
    let first : text ≡ 40 ∷ inner = drop_more text 0 0 (omega arith) ∙ ap (λ b. b ∷ inner) opens in
    let before : drop n inner ≡ drop (length text - 2) text = drop-drop n 1 text ∙ ap (λ k. drop k text) (omega arith) in
    let after : drop (length text - 2 + 1) text ≡ get_or text (length text - 1) 0 ∷ [] =
    ap (λ k. drop k text) (omega arith) ∙ drop_more text (length text - 1) 0 (omega arith) ∙ ap (λ l. get_or text (length text - 1) 0 ∷ l) (drop_all (length text - 1 + 1) text (omega arith)) in
    let rest : drop n inner ≡ 41 ∷ get_or text (length text - 1) 0 ∷ [] =
    before ∙ drop_more text (length text - 2) 0 (omega arith) ∙ (λ k. closes k ∷ after k) in
    first ∙ ap (λ l. 40 ∷ l) (sym (take-append-drop n inner) ∙ ap (λ l. take n inner ++ l) rest)

-- where nothing is read, none is
pub not_read : {X E : Type 0} (P : Option X → Type 0) (r : Result X E) → IsErr r → P None → P (result_ok r)
not_read P (Ok x) err none = absurd (cc err)
not_read P (Err e) err none = none

-- one more letter that stands for a type, and one that stands for none
pub one_more : (letters : List ℕ) (types : List FieldType) (place : ℕ) (t : FieldType) → map letter (take place types) ≡ take place letters → place < length letters → place < length types → letter t ≡ get_or letters place 0 → map letter (take (place + 1) (set types place t)) ≡ take (place + 1) letters
one_more letters types place t e h k l =
    ap (map letter) (take_more_set types place t k)
    ∙ map_push letter (take place types) t
    ∙ (λ i. e i ++ l i ∷ [])
    ∙ sym (take_more letters place 0 h)

pub no_types : (letters : List ℕ) (place : ℕ) → place < length letters → ((t : FieldType) → letter t ≡ get_or letters place 0 → ⊥) → (ts : List FieldType) → map letter ts ≡ letters → ⊥
no_types letters place h unknown ts e =
    let within : place < length ts = subst (λ n. place < n) (ap length (sym e) ∙ length-map ts letter) h in
    unknown (get_or ts place Int) (sym (get_or-map letter ts place Int 0 within) ∙ ap (λ l. get_or l place 0) e)
