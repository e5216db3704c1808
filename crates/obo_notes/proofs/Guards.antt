-- What follows where a guarded answer is there.
use Rattle.std.proofs.Common.{◌≡◌, ℕ, Bool, true, false, List, [], ◌∷◌, Option, None, Some, refl}
use Rattle.std.specs.Option.{is_none, option_to_list}
use Rattle.std.specs.Str.{bytes_eq}
use Rattle.std.proofs.lemmas.Option.{none-some}
use Rattle.std.proofs.lemmas.Slice.Eq.{bytes_eq-Decides}
use Rattle.text_sets.specs.Parts.{take_one, take_one_more}
use Rattle.obo_notes.specs.Context.{where_true}
use Rattle.obo_notes.specs.Forms.{first_part}

pub where_true_some : {X : Type 0} (test : Bool) (o : Option X) (x : X) → where_true test o ≡ Some x → (test ≡ true) × (o ≡ Some x)
where_true_some true o x is = (refl, is)
where_true_some false o x is = absurd (none-some x is)

pub none_from_is_none : {X : Type 0} (o : Option X) → is_none o ≡ true → o ≡ None
none_from_is_none None is = refl
none_from_is_none (Some x) is = let h : false ≡ true = is in absurd (cc)

pub same_bytes : (xs ys : List ℕ) → bytes_eq xs ys ≡ true → xs ≡ ys
same_bytes xs ys = (bytes_eq-Decides xs ys).0

-- one part at most is taken
pub take_one-single : {X Y : Type 0} (part : X → Option Y) (xs : List X) → option_to_list (first_part (take_one part xs).parts) ≡ (take_one part xs).parts
take_one-single part [] = refl
take_one-single part (x ∷ xs) =
    elim (part x) as (λ o. option_to_list (first_part (take_one_more x xs o (take_one part xs)).parts) ≡ (take_one_more x xs o (take_one part xs)).parts) [
      | None ↦ take_one-single part xs
      | Some y ↦ refl
    ]
