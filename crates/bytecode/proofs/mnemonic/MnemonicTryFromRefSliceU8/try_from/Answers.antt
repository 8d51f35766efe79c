use Rattle.std.proofs.Common.{◌≡◌, refl, ap, rules, tests, subst, sym, ◌∙◌}
use Rattle.std.specs.Option.{option_map}
use Rattle.std.specs.Result.{result_ok}
use Rattle.std.proofs.lemmas.Iterator.{YieldsList-from_slice, first_from_find}
use Rattle.bytecode.specs.Mnemonics.{Spells}
use Rattle.bytecode.specs.declared.mnemonic.Row.{Row}
use Rattle.bytecode.proofs.Spelling.{found, named, spelled}
use Rattle.bytecode.proofs.mnemonic.MnemonicTryFromRefSliceU8.try_from.Goals as goal

pub returns : goal.returns
returns c =
    let word = c.args.word.now in
    let rows = c.iter.result.rest.now in
    let finds = first_from_find _ _ c.find.result (λ (row : Row). row.1.now ≡ word) (λ (row : Row). row.1.now ≡ word → ⊥) c.find.ensures.ran (YieldsList-from_slice rows refl) (λ x q k. search (rules, tests)) (λ x q k. search (rules, tests)) in
    let given : result_ok c.ok_or.result ≡ c.map.result = search (rules, tests) in
    let maps : c.map.result ≡ option_map (λ x. x.now.0) c.find.result = search (rules, tests) in
    subst (Spells word) (sym (given ∙ maps)) (found rows (ap named c.iter.ensures.rest) (ap spelled c.iter.ensures.rest) word _ finds)
