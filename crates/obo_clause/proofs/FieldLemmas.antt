-- A qualifier: what the reader finds is one, and each one it finds, whatever blanks and comma or end stand behind it.
use Rattle.std.proofs.Common.{◌≡◌, ℕ, zero, suc, ◌<◌, ◌==◌, Bool, true, false, cond, List, [], ◌∷◌, ◌++◌, Option, Some, None, length, refl, sym, ap, subst, ◌∙◌, ◌⊎◌, inl, inr, ⊎_elim, arith}
use Rattle.std.specs.List.{AllPass}
use Rattle.std.specs.Option.{option_and_then, option_map}
use Rattle.std.proofs.lemmas.Bool.{ne_eqb}
use Rattle.std.proofs.lemmas.List.{append_assoc}
use Rattle.std.proofs.lemmas.List.Elements.{All-weaker}
use Rattle.obo_clause.specs.declared.clause.Qualifier.{Qualifier}
use Rattle.obo_clause.specs.Faults.{Stops}
use Rattle.obo_clause.specs.Grammar.{AreBlanks, AreTrimmed, IsQualifier, IsQuoted, IsUnquoted}
use Rattle.obo_clause.specs.Marks.{MarkedByte, read_as}
use Rattle.obo_clause.specs.Reading.{Field, behind, behind_blanks, behind_sign, field_at, field_value, found, front, inside_quotes, is_sign, qualifier_of, quoted_field, trim_end, unquoted_field}
use Rattle.obo_clause.specs.Vocabulary.{equals, is_key_mark, is_quoted_mark, is_space, is_unquoted_mark, quote}
use Rattle.obo_clause.proofs.RunLemmas.{behind-run, front-leaves, front-run, front-takes, pass-append, pass-head, pass-left, pass-nil, run-passes, run-whole, trim_end-run, trimmed-run, trims}
use Rattle.obo_clause.proofs.SignLemmas.{behind_sign-found, not-sign, space-not_key, space-unquoted}
use Rattle.obo_clause.proofs.WordLemmas.{blanks-at, blanks-behind, inside-finds, inside-found, quoted-is, quoted-rest, quoted_marks, same-some}

blanks-pass : (test : MarkedByte → Bool) → ((mark : MarkedByte) → is_space mark ≡ true → test mark ≡ true) → (blanks : List MarkedByte) → AreBlanks blanks → AllPass test blanks
blanks-pass test weaker blanks blank = All-weaker (λ mark. is_space mark ≡ true) (λ mark. test mark ≡ true) weaker blanks blank

-- ---- what is there is found

-- the field that is found is this qualifier
pub record FieldFound (marks : List MarkedByte) (qualifier : Qualifier) (rest : List MarkedByte) : Type 0 where
  pub field : Field
  pub found : field_at marks ≡ Some field
  pub is : qualifier_of field ≡ qualifier
  pub left : field.2 ≡ rest

-- what stands behind a key stops it
key-stops : (before rest : List MarkedByte) → AreBlanks before → Stops is_key_mark (before ++ equals ∷ rest)
key-stops [] rest blank = refl
key-stops (x ∷ before) rest blank = space-not_key x (pass-head is_space x before blank)

some-key : {A : Type 0} (key : List MarkedByte) (o : Option A) → 0 < length key → (cond (length key == 0) None o) ≡ o
some-key key o some = ap (λ b. cond b None o) (ne_eqb (length key) 0 (λ e. omega (arith, e)))

field_at-key : (key before rest : List MarkedByte) → 0 < length key → AllPass is_key_mark key → AreBlanks before → field_at (key ++ (before ++ equals ∷ rest)) ≡ field_value key (behind_blanks rest)
unfolding field_at
field_at-key key before rest some each blank =
    let stops = key-stops before rest blank in
    (λ i. let k = front-run is_key_mark key (before ++ equals ∷ rest) each stops i in cond (length k == 0) None (option_and_then (λ (value : List MarkedByte). field_value k (behind_blanks value)) (behind_sign 61 (behind_blanks (behind-run is_key_mark key (before ++ equals ∷ rest) each stops i)))))
    ∙ (some-key key (option_and_then (λ (value : List MarkedByte). field_value key (behind_blanks value)) (behind_sign 61 (behind_blanks (before ++ equals ∷ rest)))) some
    ∙ ap (λ l. option_and_then (λ (value : List MarkedByte). field_value key (behind_blanks value)) (behind_sign 61 l)) (blanks-behind before (equals ∷ rest) blank refl))

abbrev some_field : List MarkedByte → List MarkedByte → List MarkedByte → Option Field
some_field key value rest = Some (key, value, rest)

trim-nothing : trim_end is_space [] ≡ []
unfolding trim_end
trim-nothing = refl

module _ (follow : MarkedByte) (rest : List MarkedByte) (not_space : is_space follow ≡ false) (not_unquoted : is_unquoted_mark follow ≡ false) (not_quote : is_sign 34 follow ≡ false) where
  value-quoted : (key inside before blanks : List MarkedByte) → AllPass is_quoted_mark inside → AreBlanks before → AreBlanks blanks → field_value key (behind_blanks (before ++ (quoted_marks inside ++ (blanks ++ follow ∷ rest)))) ≡ Some (key, inside, follow ∷ rest)
  value-quoted key inside before blanks each blank after =
      let more = blanks ++ follow ∷ rest in
      let at : behind_blanks (before ++ (quoted_marks inside ++ more)) ≡ quote ∷ (inside ++ quote ∷ more) = ap (λ l. behind_blanks (before ++ l)) (quoted-rest inside more) ∙ blanks-behind before (quote ∷ (inside ++ quote ∷ more)) blank refl in
      ap (field_value key) at
      ∙ (ap (λ o. option_map (λ (read : List MarkedByte × List MarkedByte). (key, read.0, behind_blanks read.1)) o) (inside-finds inside more each)
      ∙ ap (λ (l : List MarkedByte). some_field key inside l) (blanks-behind blanks (follow ∷ rest) after not_space))

  -- a run without quotes
  value-run : (key run : List MarkedByte) → AllPass is_unquoted_mark run → behind_sign 34 (run ++ follow ∷ rest) ≡ None → field_value key (run ++ follow ∷ rest) ≡ Some (key, trim_end is_space run, follow ∷ rest)
  value-run key run each none =
      ap (λ o. found o (Some (unquoted_field key (run ++ follow ∷ rest))) (quoted_field key)) none
      ∙ λ i. Some (key, trim_end is_space (front-run is_unquoted_mark run (follow ∷ rest) each not_unquoted i), behind-run is_unquoted_mark run (follow ∷ rest) each not_unquoted i)

  value-unquoted : (key value before blanks : List MarkedByte) → AllPass is_unquoted_mark value → AreTrimmed value → AreBlanks before → AreBlanks blanks → field_value key (behind_blanks (before ++ (value ++ (blanks ++ follow ∷ rest)))) ≡ Some (key, value, follow ∷ rest)
  value-unquoted key [] before blanks each trimmed blank after =
      let at : behind_blanks (before ++ (blanks ++ follow ∷ rest)) ≡ follow ∷ rest = ap behind_blanks (sym (append_assoc before blanks (follow ∷ rest))) ∙ blanks-behind (before ++ blanks) (follow ∷ rest) (pass-append is_space before blanks blank after) not_space in
      ap (field_value key) at
      ∙ (value-run key [] (pass-nil is_unquoted_mark) (ap (λ b. cond {A = Option (List MarkedByte)} b (Some rest) None) not_quote)
      ∙ ap (λ (l : List MarkedByte). some_field key l (follow ∷ rest)) trim-nothing)
  value-unquoted key (x ∷ value) before blanks each trimmed blank after =
      let run = (x ∷ value) ++ blanks in
      let whole : (x ∷ value) ++ (blanks ++ follow ∷ rest) ≡ run ++ follow ∷ rest = sym (append_assoc (x ∷ value) blanks (follow ∷ rest)) in
      let at : behind_blanks (before ++ ((x ∷ value) ++ (blanks ++ follow ∷ rest))) ≡ run ++ follow ∷ rest = blanks-behind before ((x ∷ value) ++ (blanks ++ follow ∷ rest)) blank (trimmed.begins x value refl) ∙ whole in
      let passes = pass-append is_unquoted_mark (x ∷ value) blanks each (blanks-pass is_unquoted_mark space-unquoted blanks after) in
      let no_quote = not-sign is_unquoted_mark 34 x refl (pass-head is_unquoted_mark x value each) in
      ap (field_value key) at
      ∙ (value-run key run passes (ap (λ b. cond {A = Option (List MarkedByte)} b (Some (value ++ blanks ++ follow ∷ rest)) None) no_quote)
      ∙ ap (λ (l : List MarkedByte). some_field key l (follow ∷ rest)) (trim_end-run is_space (x ∷ value) blanks trimmed.ends after))

  field-is : (q : Qualifier) (key value : List MarkedByte) → read_as key ≡ q.key → read_as value ≡ q.value → ◌≡◌ {A = Qualifier} (record { key = read_as key; value = read_as value }) q
  field-is q key value one two = λ i. record { key = one i; value = two i }

  pub field-finds : (part blanks : List MarkedByte) (q : Qualifier) → IsQualifier part q → AreBlanks blanks → FieldFound (part ++ (blanks ++ follow ∷ rest)) q (follow ∷ rest)
  field-finds part blanks q is after =
      let more = blanks ++ follow ∷ rest in
      let whole : part ++ more ≡ is.key ++ (is.before ++ equals ∷ (is.behind ++ (is.value ++ more))) = ap (λ l. l ++ more) is.whole ∙ simp append_assoc in
      let start = ap field_at whole ∙ field_at-key is.key is.before (is.behind ++ (is.value ++ more)) is.keyed.some is.keyed.each is.blank_before in
      ⊎_elim (λ (quoted : IsQuoted is.value q.value). record {
        field = (is.key, quoted.inside, follow ∷ rest);
        found = start ∙ (ap (λ l. field_value is.key (behind_blanks (is.behind ++ (l ++ more)))) quoted.whole ∙ value-quoted is.key quoted.inside is.behind blanks quoted.each is.blank_behind after);
        is = field-is q is.key quoted.inside is.keyed.read quoted.read;
        left = refl;
      }) (λ (unquoted : IsUnquoted is.value q.value). record {
        field = (is.key, is.value, follow ∷ rest);
        found = start ∙ value-unquoted is.key is.value is.behind blanks unquoted.each unquoted.trimmed is.blank_behind after;
        is = field-is q is.key is.value is.keyed.read unquoted.read;
        left = refl;
      }) is.valued

-- ---- what is found is there

-- a qualifier, blanks and the rest
pub record HasField (marks : List MarkedByte) (field : Field) : Type 0 where
  pub part : List MarkedByte
  pub blanks : List MarkedByte
  pub whole : marks ≡ part ++ (blanks ++ field.2)
  pub is : IsQualifier part (qualifier_of field)
  pub blank : AreBlanks blanks

-- a value, blanks and the rest
record HasValue (marks key : List MarkedByte) (field : Field) : Type 0 where
  part : List MarkedByte
  blanks : List MarkedByte
  whole : marks ≡ part ++ (blanks ++ field.2)
  keyed : field.0 ≡ key
  valued : IsQuoted part (read_as field.1) ⊎ IsUnquoted part (read_as field.1)
  blank : AreBlanks blanks

quoted-step : (key inside : List MarkedByte) (field : Field) (o : Option (List MarkedByte × List MarkedByte)) → inside_quotes inside ≡ o → option_map {U = Field} (λ (read : List MarkedByte × List MarkedByte). (key, read.0, behind_blanks read.1)) o ≡ Some field → HasValue (quote ∷ inside) key field
quoted-step key inside field None e h = cc
quoted-step key inside field (Some read) e h =
    let same = same-some (key, read.0, behind_blanks read.1) field h in
    let has = inside-found inside read.0 read.1 e in
    let at = blanks-at read.1 in
    subst (HasValue (quote ∷ inside) key) same (record {
      part = quoted_marks read.0;
      blanks = at.blanks;
      whole = ap (λ l. quote ∷ l) (has.whole ∙ ap (λ l. read.0 ++ quote ∷ l) at.whole) ∙ sym (quoted-rest read.0 (at.blanks ++ behind_blanks read.1));
      keyed = refl;
      valued = inl (quoted-is read.0 has.each);
      blank = at.blank;
    })

front-stops : (p q : MarkedByte → Bool) (marks : List MarkedByte) → Stops q marks → Stops q (front p marks)
front-stops p q [] stops = tt
front-stops p q (x ∷ marks) stops = go (p x) refl
  where
    go : (b : Bool) → p x ≡ b → Stops q (front p (x ∷ marks))
    go true e = subst (Stops q) (sym (front-takes p x marks e)) stops
    go false e = subst (Stops q) (sym (front-leaves p x marks e)) tt

unquoted-step : (key marks : List MarkedByte) (field : Field) → Stops is_space marks → unquoted_field key marks ≡ field → HasValue marks key field
unquoted-step key marks field stops same =
    let run = front is_unquoted_mark marks in
    let t = trims is_space run in
    let passes = subst (AllPass is_unquoted_mark) t.whole (run-passes is_unquoted_mark marks) in
    subst (HasValue marks key) same (record {
      part = trim_end is_space run;
      blanks = t.blanks;
      whole = sym (run-whole is_unquoted_mark marks) ∙ (ap (λ l. l ++ behind is_unquoted_mark marks) t.whole ∙ append_assoc (trim_end is_space run) t.blanks (behind is_unquoted_mark marks));
      keyed = refl;
      valued = inr (record {
        each = pass-left is_unquoted_mark (trim_end is_space run) t.blanks passes;
        trimmed = trimmed-run is_space run (front-stops is_unquoted_mark is_space marks stops);
        read = refl;
      });
      blank = t.blank;
    })

value-step : (key marks : List MarkedByte) (field : Field) (o : Option (List MarkedByte)) → behind_sign 34 marks ≡ o → Stops is_space marks → found o (Some (unquoted_field key marks)) (quoted_field key) ≡ Some field → HasValue marks key field
value-step key marks field None e stops h =
    unquoted-step key marks field stops (same-some (unquoted_field key marks) field h)
value-step key marks field (Some inside) e stops h =
    subst (λ l. HasValue l key field) (sym (behind_sign-found 34 marks inside e)) (quoted-step key inside field (inside_quotes inside) refl h)

value-found : (key marks : List MarkedByte) (field : Field) → field_value key (behind_blanks marks) ≡ Some field → HasValue (behind_blanks marks) key field
value-found key marks field h =
    value-step key (behind_blanks marks) field (behind_sign 34 (behind_blanks marks)) refl (blanks-at marks).stops h

key-longer : (n : ℕ) → (n == 0) ≡ false → 0 < n
key-longer zero e = cc
key-longer (suc n) e = omega arith

equals-step : (key rest : List MarkedByte) (field : Field) (marks : List MarkedByte) (o : Option (List MarkedByte)) → behind_sign 61 (behind_blanks rest) ≡ o → marks ≡ key ++ rest → 0 < length key → AllPass is_key_mark key → option_and_then (λ (value : List MarkedByte). field_value key (behind_blanks value)) o ≡ Some field → HasField marks field
equals-step key rest field marks None e whole some each h = cc
equals-step key rest field marks (Some value) e whole some each h =
    let before = blanks-at rest in
    let behind = blanks-at value in
    let has = value-found key value field h in
    let part = key ++ before.blanks ++ equals ∷ (behind.blanks ++ has.part) in
    let after : rest ≡ before.blanks ++ equals ∷ (behind.blanks ++ (has.part ++ (has.blanks ++ field.2))) = before.whole ∙ ap (λ l. before.blanks ++ l) (behind_sign-found 61 (behind_blanks rest) value e ∙ ap (λ l. equals ∷ l) (behind.whole ∙ ap (λ l. behind.blanks ++ l) has.whole)) in
    record {
      part = part;
      blanks = has.blanks;
      whole = whole ∙ (ap (λ l. key ++ l) after ∙ simp append_assoc);
      is = record {
        key = key;
        before = before.blanks;
        behind = behind.blanks;
        value = has.part;
        whole = refl;
        keyed = record { some = some; each = each; read = ap read_as (sym has.keyed) };
        blank_before = before.blank;
        blank_behind = behind.blank;
        valued = has.valued;
      };
      blank = has.blank;
    }

field-step : (marks : List MarkedByte) (field : Field) (b : Bool) → (length (front is_key_mark marks) == 0) ≡ b → cond {A = Option Field} b None (option_and_then (λ (value : List MarkedByte). field_value (front is_key_mark marks) (behind_blanks value)) (behind_sign 61 (behind_blanks (behind is_key_mark marks)))) ≡ Some field → HasField marks field
field-step marks field true e h = cc
field-step marks field false e h =
    equals-step (front is_key_mark marks) (behind is_key_mark marks) field marks (behind_sign 61 (behind_blanks (behind is_key_mark marks))) refl (sym (run-whole is_key_mark marks)) (key-longer (length (front is_key_mark marks)) e) (run-passes is_key_mark marks) h

pub field-found : (marks : List MarkedByte) (field : Field) → field_at marks ≡ Some field → HasField marks field
unfolding field_at
field-found marks field h = field-step marks field (length (front is_key_mark marks) == 0) refl h
