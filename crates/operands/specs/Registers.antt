-- Registers, of values or of kinds alone. Assumes nothing.
use Rattle.std.specs.Prelude.{◌≡◌, ℕ, ◌+◌, List, [], ◌∷◌, ◌++◌, length, take, drop, Some, None, Option, Ok, Err, Result, nat_le, slice_index_or}
use Rattle.operands.specs.declared.register.Register.{Register}
use Rattle.operands.specs.declared.register.Register.TheVariants.{Unset, Int, LongFirst, LongSecond}
use Rattle.operands.specs.Stacks.{when}

-- Halves of a long stand only in pairs.
pub data Paired {I J : Type 0} : List (Register I J) → Type 0 where
  none : Paired []
  unset : {rs : List (Register I J)} → Paired rs → Paired (Unset ∷ rs)
  int : {v : I} {rs : List (Register I J)} → Paired rs → Paired (Int v ∷ rs)
  long : {v : J} {rs : List (Register I J)} → Paired rs → Paired (LongFirst v ∷ LongSecond ∷ rs)

-- The number that is held in a register, or in it and the next.
abbrev pub int_of : {I J : Type 0} → Register I J → Option I
int_of Unset = None
int_of (Int v) = Some v
int_of (LongFirst v) = None
int_of LongSecond = None

abbrev pub is_second : {I J X : Type 0} → Register I J → X → Option X
is_second Unset v = None
is_second (Int w) v = None
is_second (LongFirst w) v = None
is_second LongSecond v = Some v

abbrev pub long_of : {I J : Type 0} → Register I J → Register I J → Option J
long_of Unset s = None
long_of (Int v) s = None
long_of (LongFirst v) s = is_second s v
long_of LongSecond s = None

abbrev pub int_at : {I J : Type 0} → ℕ → List (Register I J) → Option I
int_at n rs = int_of (slice_index_or rs n Unset)

abbrev pub long_at : {I J : Type 0} → ℕ → List (Register I J) → Option J
long_at n rs = long_of (slice_index_or rs n Unset) (slice_index_or rs (n + 1) Unset)

-- What an int and a long are held as.
abbrev pub int_cells : {I J : Type 0} → I → List (Register I J)
int_cells v = Int v ∷ []

abbrev pub long_cells : {I J : Type 0} → J → List (Register I J)
long_cells v = LongFirst v ∷ LongSecond ∷ []

-- A half whose other half is stored over is unset: the last register before what is stored, if it is a first half, and
-- the first register after it, if it is a second half.
abbrev pub no_first : {I J : Type 0} → Register I J → Register I J
no_first Unset = Unset
no_first (Int v) = Int v
no_first (LongFirst v) = Unset
no_first LongSecond = LongSecond

abbrev pub no_second : {I J : Type 0} → Register I J → Register I J
no_second Unset = Unset
no_second (Int v) = Int v
no_second (LongFirst v) = LongFirst v
no_second LongSecond = Unset

abbrev pub ending_whole : {I J : Type 0} → List (Register I J) → List (Register I J)
ending_whole [] = []
ending_whole (r ∷ []) = no_first r ∷ []
ending_whole (r ∷ s ∷ rs) = r ∷ ending_whole (s ∷ rs)

abbrev pub starting_whole : {I J : Type 0} → List (Register I J) → List (Register I J)
starting_whole [] = []
starting_whole (r ∷ rs) = no_second r ∷ rs

-- The registers with these cells stored from the register n on.
abbrev pub with_cells : {I J : Type 0} → List (Register I J) → ℕ → List (Register I J) → List (Register I J)
with_cells cells n rs = ending_whole (take n rs) ++ (cells ++ starting_whole (drop (n + length cells) rs))

-- The same, and none where one of them lies past the last register.
abbrev pub stored : {I J : Type 0} → List (Register I J) → ℕ → List (Register I J) → Option (List (Register I J))
stored cells n rs = when (nat_le (n + length cells) (length rs)) (with_cells cells n rs)

-- `StoresAs wanted before r after`: where r is ok the registers are what is wanted; where it is an error nothing is
-- wanted, and nothing is altered.
abbrev pub StoresAs : {I J A E : Type 0} → Option (List (Register I J)) → List (Register I J) → Result A E → List (Register I J) → Type 0
StoresAs wanted before (Ok _) after = wanted ≡ Some after
StoresAs wanted before (Err _) after = (wanted ≡ None) × (after ≡ before)

-- A store of what is paired leaves paired registers paired, and as many as there were.
abbrev pub KeepsPairs : Type 0 → Type 0 → Type 0
KeepsPairs I J =
    (cells : List (Register I J)) (n : ℕ) (rs ss : List (Register I J))
    → Paired cells
    → Paired rs
    → stored cells n rs ≡ Some ss
    → Paired ss × (length ss ≡ length rs)

-- `Within r s`: s holds what r holds, and maybe more: where r is unset, s may be set.
abbrev pub Within : {I J : Type 0} → Register I J → Register I J → Type 0
Within Unset s = Unit {0}
Within (Int v) s = s ≡ Int v
Within (LongFirst v) s = s ≡ LongFirst v
Within LongSecond s = s ≡ LongSecond

-- The same for each register of two lists of one length.
abbrev pub AllWithin : {I J : Type 0} → List (Register I J) → List (Register I J) → Type 0
AllWithin [] [] = Unit {0}
AllWithin [] (s ∷ ss) = ⊥
AllWithin (r ∷ rs) [] = ⊥
AllWithin (r ∷ rs) (s ∷ ss) = Within r s × AllWithin rs ss
