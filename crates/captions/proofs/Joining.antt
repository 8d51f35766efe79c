-- Lists joined one after another. Assumes nothing.
use Rattle.std.proofs.Common.{◌≡◌, ℕ, ◌+◌, ◌<◌, List, [], ◌++◌, length, get_or, take, drop, sym, ap, ◌∙◌, take-append-drop}
use Rattle.std.specs.List.{flat_map}
use Rattle.std.proofs.lemmas.Grind.{flat_map-append}
use Rattle.std.proofs.lemmas.List.{drop_more, take_more, flat_map_more}

module _ {X A : Type 0} (f : X → List A) where
  -- the front of a list with one element more, and the whole list with an element picked out
  pub joined_front : (xs : List X) (n : ℕ) (d : X) → n < length xs → flat_map f (take (n + 1) xs) ≡ flat_map f (take n xs) ++ f (get_or xs n d)
  joined_front xs n d h = ap (flat_map f) (take_more xs n d h) ∙ sym (flat_map_more f [] (take n xs) (get_or xs n d))

  pub joined_parts : (xs : List X) (n : ℕ) (d : X) → n < length xs → flat_map f xs ≡ flat_map f (take n xs) ++ (f (get_or xs n d) ++ flat_map f (drop (n + 1) xs))
  joined_parts xs n d h =
      ap (flat_map f) (sym (take-append-drop n xs))
      ∙ flat_map-append f (take n xs) (drop n xs)
      ∙ ap (λ l. flat_map f (take n xs) ++ flat_map f l) (drop_more xs n d h)
