-- Where no output of a chain clashes, and where it does not follow that one does.
use Rattle.std.proofs.Common.{◌≡◌, ℕ, ◌+◌, ◌≤◌, List, [], ◌∷◌, ◌++◌, length, filter, map, Bool, true, false, ◌||◌, cond, zero, suc, Option, Some, None, ap, sym, subst, ◌∙◌, refl, arith}
use Rattle.std.specs.Cmp.Lexicographic.{bytes_decides}
use Rattle.std.proofs.lemmas.List.Folds.{list_any-append}
use Rattle.chain_words.specs.Word.{Name, same}
use Rattle.chain_words.specs.Clash.{clash, clash_from, first_clash, is_placed, or_later}
use Rattle.chain_words.specs.Command.{is_one_of, read_names, times}
use Rattle.chain_words.specs.declared.fault.WordKind.{WordKind}
use Rattle.chain_words.specs.declared.fault.WordKind.TheVariants.{OutputIsInput, OutputTwice}
use Rattle.chain_words.specs.declared.given.OutputFile.{OutputFile}
use Rattle.chain_words.specs.declared.command.Chain.{Chain}

-- the names of outputs
abbrev pub names_of : List OutputFile → List Name
names_of outputs = map (λ file. file.name) outputs

-- a test that does not pass fails
pub not_true : (b : Bool) → (b ≡ true → ⊥) → b ≡ false
not_true true never = absurd (never refl)
not_true false never = refl

-- where a number is not positive, it is 0
not_positive : (n : ℕ) → (1 ≤ n → ⊥) → n ≡ 0
not_positive zero never = refl
not_positive (suc n) never = absurd (never (omega arith))

-- neither of two tests passes
or_false : (a b : Bool) → (a || b) ≡ false → (a ≡ false) × (b ≡ false)
or_false true b is = absurd cc
or_false false b is = (refl, is)

-- the second of two tests passes
or_right : (a b : Bool) → b ≡ true → (a || b) ≡ true
or_right true b is = refl
or_right false b is = is

-- an output of a name is counted among the names
counted : (name : Name) (file : OutputFile) (rest : List OutputFile) (b : Bool) → same file.name name ≡ b → times name (names_of (file ∷ rest)) ≡ cond b (suc (times name (names_of rest))) (times name (names_of rest))
counted name file rest true here = rw here refl
counted name file rest false here = rw here refl

-- an output of a name is among the outputs
placed_any : (name : Name) (outputs : List OutputFile) → is_placed name outputs ≡ is_one_of name (names_of outputs)
placed_any name [] = refl
placed_any name (file ∷ rest) = ap (λ b. same file.name name || b) (placed_any name rest)

-- where a name is one of these, it is counted
pub any_counts : (name : Name) (names : List Name) → is_one_of name names ≡ true → 1 ≤ times name names
any_counts name [] is = absurd cc
any_counts name (x ∷ xs) is = by_test (same x name) (any_counts name xs) is
  where
    by_test : (b : Bool) → (is_one_of name xs ≡ true → 1 ≤ times name xs) → (b || is_one_of name xs) ≡ true → 1 ≤ length (cond b (x ∷ filter (λ other. same other name) xs) (filter (λ other. same other name) xs))
    by_test true later is = omega arith
    by_test false later is = later is

-- nothing clashes on a name
pub record NoClash (name : Name) (chain : Chain) (earlier rest : List OutputFile) : Type 0 where
  pub once : times name (names_of rest) ≤ 1
  pub fresh : 1 ≤ times name (names_of rest) → (is_placed name earlier ≡ false) × (is_one_of name (read_names chain) ≡ false)

-- an output without a clash
free : (read twice : Bool) → cond read (Some OutputIsInput) (cond twice (Some OutputTwice) None) ≡ None → (read ≡ false) × (twice ≡ false)
free true twice is = absurd cc
free false true is = absurd cc
free false false is = (refl, refl)

-- where no output clashes, nothing clashes on any name
pub no_clash : (name : Name) (chain : Chain) (earlier rest : List OutputFile) → clash_from chain earlier rest ≡ None → NoClash name chain earlier rest
no_clash name chain earlier [] is = record { once = omega arith; fresh = λ some. absurd (omega arith) }
no_clash name chain earlier (file ∷ rest) is = by_clash (clash chain earlier file) refl (no_clash name chain (earlier ++ file ∷ []) rest) is
  where
    seen : same file.name name ≡ true → is_placed name (earlier ++ file ∷ []) ≡ true
    seen here = rw list_any-append (or_right (is_placed name earlier) (same file.name name || false) (rw here refl))

    by_name : clash chain earlier file ≡ None → NoClash name chain (earlier ++ file ∷ []) rest → (b : Bool) → same file.name name ≡ b → NoClash name chain earlier (file ∷ rest)
    by_name quiet later true here =
        let count = counted name file rest true here in
        let none : times name (names_of rest) ≡ 0 = not_positive _ (λ some. let e = seen here in let f = (later.fresh some).0 in cc) in
        let is_name : file.name ≡ name = (bytes_decides file.name name).0 here in
        let apart = free (is_one_of file.name (read_names chain)) (is_placed file.name earlier) quiet in
        record {
          once = omega (arith, none, count);
          fresh = λ some. (subst (λ n. is_placed n earlier ≡ false) is_name apart.1, subst (λ n. is_one_of n (read_names chain) ≡ false) is_name apart.0);
        }
    by_name quiet later false here =
        let count = counted name file rest false here in
        record {
          once = omega (arith, count, later.once);
          fresh = λ some.
              let told = later.fresh (omega (arith, some, count)) in
              ((or_false (is_placed name earlier) (is_placed name (file ∷ [])) (rw list_any-append at told.0)).0, told.1);
        }

    by_clash : (found : Option WordKind) → clash chain earlier file ≡ found → (clash_from chain (earlier ++ file ∷ []) rest ≡ None → NoClash name chain (earlier ++ file ∷ []) rest) → or_later found file.at (clash_from chain (earlier ++ file ∷ []) rest) ≡ None → NoClash name chain earlier (file ∷ rest)
    by_clash (Some kind) quiet later is = absurd cc
    by_clash None quiet later is = by_name quiet (later is) (same file.name name) refl

-- where each name stands once at most and none is read, nothing clashes
quiet_from : (chain : Chain) (earlier rest : List OutputFile) → ((name : Name) → times name (names_of earlier) + times name (names_of rest) ≤ 1) → ((name : Name) → 1 ≤ times name (names_of rest) → is_one_of name (read_names chain) ≡ false) → clash_from chain earlier rest ≡ None
quiet_from chain earlier [] once fresh = refl
quiet_from chain earlier (file ∷ rest) once fresh =
    ap (λ k. or_later k file.at (clash_from chain (earlier ++ file ∷ []) rest)) none
    ∙ quiet_from chain (earlier ++ file ∷ []) rest (λ name. omega (arith, moved name, once name)) (λ name some. fresh name (omega (arith, some, more name)))
  where
    itself : same file.name file.name ≡ true
    itself = (bytes_decides file.name file.name).1 refl

    more : (name : Name) → times name (names_of rest) ≤ times name (names_of (file ∷ rest))
    more name = elim (same file.name name) as (λ b. length (filter (λ other. same other name) (names_of rest)) ≤ length (cond b (file.name ∷ filter (λ other. same other name) (names_of rest)) (filter (λ other. same other name) (names_of rest)))) [ true ↦ omega arith | false ↦ omega arith ]

    one : (name : Name) → times name (names_of (file ∷ [])) + times name (names_of rest) ≡ times name (names_of (file ∷ rest))
    one name = elim (same file.name name) as (λ b. length (cond b (file.name ∷ []) []) + length (filter (λ other. same other name) (names_of rest)) ≡ length (cond b (file.name ∷ filter (λ other. same other name) (names_of rest)) (filter (λ other. same other name) (names_of rest)))) [ true ↦ omega arith | false ↦ omega arith ]

    appended : (name : Name) (xs ys : List OutputFile) → times name (names_of (xs ++ ys)) ≡ times name (names_of xs) + times name (names_of ys)
    appended name [] ys = omega arith
    appended name (x ∷ xs) ys = by_test (same x.name name) (appended name xs ys)
      where
        by_test : (b : Bool) → times name (names_of (xs ++ ys)) ≡ times name (names_of xs) + times name (names_of ys) → length (cond b (x.name ∷ filter (λ other. same other name) (names_of (xs ++ ys))) (filter (λ other. same other name) (names_of (xs ++ ys)))) ≡ length (cond b (x.name ∷ filter (λ other. same other name) (names_of xs)) (filter (λ other. same other name) (names_of xs))) + times name (names_of ys)
        by_test true later = omega (arith, later)
        by_test false later = later

    moved : (name : Name) → times name (names_of (earlier ++ file ∷ [])) + times name (names_of rest) ≡ times name (names_of earlier) + times name (names_of (file ∷ rest))
    moved name = omega (arith, appended name earlier (file ∷ []), one name)

    none : clash chain earlier file ≡ None
    none =
        let count : times file.name (names_of (file ∷ rest)) ≡ suc (times file.name (names_of rest)) = counted file.name file rest true itself in
        let read = fresh file.name (omega (arith, count)) in
        let few = once file.name in
        let twice : is_placed file.name earlier ≡ false = not_true _ (λ found. let some = any_counts file.name (names_of earlier) (sym (placed_any file.name earlier) ∙ found) in omega (arith, some, count, few)) in
        rw (read, twice) refl

-- so it is from the first output on
pub quiet : (chain : Chain) (outputs : List OutputFile) → ((name : Name) → times name (names_of outputs) ≤ 1) → ((name : Name) → 1 ≤ times name (names_of outputs) → is_one_of name (read_names chain) ≡ false) → first_clash chain outputs ≡ None
quiet chain outputs once fresh = quiet_from chain [] outputs (λ name. omega (arith, once name)) fresh
