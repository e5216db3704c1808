-- The names of the files that acts put, and what a folder holds of other names.
use Rattle.std.proofs.Common.{◌≡◌, ℕ, Bool, true, false, ◌||◌, cond, List, [], ◌∷◌, ◌++◌, Option, Some, Result, Ok, Err, refl, sym, ap, subst, ◌∙◌}
use Rattle.std.proofs.lemmas.Cmp.{nat_list_cmp_total}
use Rattle.std.specs.Cmp.{unsigned_tied}
use Rattle.std.specs.Cmp.Lexicographic.{bytes_decides, lists_ties}
use Rattle.std.specs.FinMap.{get, get-insert, insert}
use Rattle.std.specs.Option.{option_map}
use Rattle.std.specs.Ordering.{nat_cmp}
use Rattle.rel_io.specs.FolderState.{Files}
use Rattle.chain_words.specs.Command.{is_one_of}
use Rattle.chain_words.specs.Word.{same}
use Rattle.chain_words.specs.Word.{Name}
use Rattle.release_report.specs.declared.fault.Fault.{Fault}
use Rattle.release_chain.specs.Ending.{Did, SameAt}
use Rattle.release_chain.specs.inner.Names.{put_names}
use Rattle.release_chain.specs.Part.{Act, Opens, Part, Puts, then_by}

-- what is held of a name behind a put
pub get_put : (files : Files) (put : Name) (bytes : List ℕ) (name : Name) → get (insert files put bytes) name ≡ cond (same name put) (Some bytes) (get files name)
get_put files put bytes name =
    get-insert nat_list_cmp_total files put bytes name
    ∙ ap (λ b. cond b (Some bytes) (get files name)) (sym (lists_ties nat_cmp (λ x y. sym (unsigned_tied x y)) name put))

-- names that differ
pub not_same : (a b : Name) → same a b ≡ false → same b a ≡ false
not_same a b differ =
    elim (same b a) as (λ r. same b a ≡ r → r ≡ false) [
      | true ↦ λ yes. let both : same a b ≡ true = (bytes_decides a b).1 (sym ((bytes_decides b a).0 yes)) in absurd (cc)
      | false ↦ λ _. refl
    ] refl

-- neither of two tests that are none
pub neither : (a b : Bool) → (a || b) ≡ false → (a ≡ false) × (b ≡ false)
neither true b e = absurd (cc)
neither false b e = (refl, e)

-- what no act puts is held as before
pub same_after : (acts : List Act) (name : Name) (files : Files) (before now : Option Files) → is_one_of name (put_names acts) ≡ false → Did acts before now → SameAt name files before → SameAt name files now
same_after [] name files before now apart did held = subst (SameAt name files) (sym did) held
same_after (Opens other ∷ acts) name files before now apart did held = same_after acts name files before now apart did held
same_after (Puts output ∷ acts) name files before now apart did held =
    let parts = neither (same output.name name) (is_one_of name (put_names acts)) apart in
    same_after acts name files _ now parts.1 did.2 (
      insert held.0 output.name did.0,
      ap (option_map (λ (files : Files). insert files output.name did.0)) held.1,
      get_put held.0 output.name did.0 name ∙ ap (λ b. cond b (Some did.0) (get held.0 name)) (not_same output.name name parts.0) ∙ held.2,
    )

pub put_names-append : (first second : List Act) → put_names (first ++ second) ≡ put_names first ++ put_names second
put_names-append [] second = refl
put_names-append (Opens name ∷ first) second = put_names-append first second
put_names-append (Puts output ∷ first) second = ap (λ names. output.name ∷ names) (put_names-append first second)

-- the names that a part puts that is done, and then what comes of its answer
pub names_then : {A B : Type 0} (acts : List Act) (answer : Result A Fault) (next : A → Part B) (state : B) (first second : List Name)
    → (then_by acts answer next).answer ≡ Ok state → ((value : A) → answer ≡ Ok value → put_names acts ≡ first) → ((value : A) → answer ≡ Ok value → (next value).answer ≡ Ok state → put_names (next value).acts ≡ second)
    → put_names (then_by acts answer next).acts ≡ first ++ second
names_then {B = B} acts (Err fault) next state first second is front back = absurd (let none : ◌≡◌ {A = Result B Fault} (Err fault) (Ok state) = is in cc)
names_then acts (Ok value) next state first second is front back =
    put_names-append acts (next value).acts
    ∙ ap (λ names. names ++ put_names (next value).acts) (front value refl)
    ∙ ap (λ names. first ++ names) (back value refl is)
