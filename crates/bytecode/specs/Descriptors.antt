-- Descriptors of fields and methods. Assumes nothing.
use Rattle.std.specs.Prelude.{◌≡◌, ℕ, List, [], ◌∷◌, ◌++◌, map, Some, None, sum_by, Option, ◌≢◌}
use Rattle.bytecode.specs.Kinds.{size}
use Rattle.bytecode.specs.declared.descriptor.FieldType.{FieldType}
use Rattle.bytecode.specs.declared.descriptor.FieldType.TheVariants.{Char, Short, Int, Long}
use Rattle.bytecode.specs.declared.descriptor.ReturnType.{ReturnType}
use Rattle.bytecode.specs.declared.descriptor.ReturnType.TheVariants.{Void, Value}
use Rattle.bytecode.specs.declared.kind.Number.{Number}
use Rattle.bytecode.specs.declared.kind.Number.TheVariants as number

-- The kind of number that a value of the type is held as.
abbrev pub number_of : FieldType → Number
number_of Char = number.Int
number_of Short = number.Int
number_of Int = number.Int
number_of Long = number.Long

-- The letter of a type: `C`, `S`, `I`, `J`, and `V` for nothing.
abbrev pub letter : FieldType → ℕ
letter Char = 67
letter Short = 83
letter Int = 73
letter Long = 74

abbrev pub return_letter : ReturnType → ℕ
return_letter Void = 86
return_letter (Value t) = letter t

-- The kind of number that a method leaves for its caller; none where it returns nothing.
abbrev pub return_number : ReturnType → Option Number
return_number Void = None
return_number (Value t) = Some (number_of t)

-- `LetterOf spelling byte r`: r has this byte as its letter; where r is none, nothing has.
abbrev pub LetterOf : {X : Type 0} → (X → ℕ) → ℕ → Option X → Type 0
LetterOf spelling byte (Some t) = spelling t ≡ byte
LetterOf spelling byte None = (t : _) → spelling t ≢ byte

-- A method's parameters, the first one first, and what it returns.
pub record Signature : Type 0 where
  pub parameters : List FieldType
  pub result : ReturnType

-- How many registers the parameters take.
abbrev pub registers_of : List FieldType → ℕ
registers_of ts = sum_by (λ t. size (number_of t)) ts

-- A method's descriptor: the parameters' letters in parentheses, and then the result's letter.
abbrev pub spelled : Signature → List ℕ
spelled s = 40 ∷ (map letter s.parameters ++ 41 ∷ return_letter s.result ∷ [])

-- No two methods' descriptors are spelled alike unless they have the same parameters and result.
abbrev pub SpellsOnce : Type 0
SpellsOnce = (s t : Signature) → spelled s ≡ spelled t → s ≡ t
