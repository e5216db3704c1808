-- What every document keeps, of its placed clauses and of the set of its clauses: each gives the other.
use Rattle.std.proofs.Common.{◌≡◌, ◌⊎◌, ◌≤◌, ◌<◌, ℕ, Bool, true, false, not, ◌&&◌, List, [], ◌∷◌, ◌++◌, codes, cond, length, map, Option, None, Some, inl, inr, ⊎_elim, refl, sym, ap, subst, ◌∙◌, arith}
use Rattle.std.specs.Prelude.{Contains, filter}
use Rattle.std.specs.List.{filter_map, list_any}
use Rattle.std.specs.Option.{IsSome, option_map}
use Rattle.std.specs.Str.{bytes_eq}
use Rattle.std.proofs.lemmas.Bool.{and_parts, both_ways, cases_Bool, false_from_ne_true, not-true}
use Rattle.std.proofs.lemmas.Option.{none-some}
use Rattle.rel_io.specs.Texts.{IsWordText}
use Rattle.iri_map.specs.Id.{iri_of}
use Rattle.iri_map.proofs.CandidateLemmas.{bytes_eq-refl}
use Rattle.text_sets.specs.Parts.{each_some}
use Rattle.text_sets.specs.Sets.{In}
use Rattle.text_sets.specs.Sorted.{sorted_by}
use Rattle.text_sets.proofs.PartLemmas.{each_some-items, each_some-parts, each_some-some, option_map_some, some_value}
use Rattle.text_sets.proofs.SetLemmas.{In-filter, In-filter_map, In-from_contains, In-from_filter, In-from_filter_map, In-from_map, In-map, contains-from_In}
use Rattle.obo_tags.specs.Table.{shape_of, tags_of}
use Rattle.obo_tags.specs.declared.kind.FrameKind.{FrameKind}
use Rattle.obo_tags.specs.declared.kind.FrameKind.TheVariants.{Header, Instance, Term, Typedef}
use Rattle.obo_tags.specs.declared.kind.ValueShape.TheVariants as shapes
use Rattle.obo_clause.specs.Fits.{Fits, FitsShape}
use Rattle.obo_clause.specs.Spelling.{shape_at}
use Rattle.obo_clause.specs.declared.clause.Clause.{Clause}
use Rattle.obo_clause.specs.declared.clause.Value.{Value}
use Rattle.obo_clause.specs.declared.clause.Value.TheVariants as value
use Rattle.clause_printer.proofs.PrintedLines.{fit_is_spelled}
use Rattle.clause_printer.proofs.SpelledFits.{spelled_fits}
use Rattle.owl_axioms.specs.Text.{expr_text}
use Rattle.owl_axioms.specs.declared.expr.ClassExpr.{ClassExpr}
use Rattle.obo_frames.specs.Frames as frames
use Rattle.obo_frames.specs.Framed.{Framed, framed, id_clause, unlined}
use Rattle.obo_frames.specs.Groups as groups
use Rattle.obo_frames.specs.Soundness.{IsKept}
use Rattle.obo_frames.specs.declared.placed.Placed.{Placed}
use Rattle.obo_frames.proofs.SpellingLemmas.{later_id}
use Rattle.obo_text.proofs.SoundLemmas.{AreSound, later_fits, sound_of}
use Rattle.obo_notes.specs.Context.{reading_in, where_true}
use Rattle.obo_notes.proofs.Guards.{same_bytes, where_true_some}
use Rattle.obo_statements.specs.Groups.{Group, group_tag, intersection, operand_plainly, union}
use Rattle.obo_mapping.specs.Documents.{group_of, group_with, has_tag, is_header, is_raw, is_term, situation_of, space_of}
use Rattle.obo_mapping.specs.Sound.{IsSound}
use Rattle.obo_mapping.proofs.OfSet.{any_from_in, in_from_any}
use Rattle.obo_mapping.proofs.SpelledLaw.{group_with_tag, tag_of_group}
use Rattle.sound_documents.proofs.NameLemmas.{same_space}
use Rattle.sound_documents.proofs.Operands.{AreRead, counted_not_raw, counted_same, has_two, read_counted, same_counted, shape_in, some_operand, two_read, values_counted}

-- ---- frames and values

pub header_frame : (f : Framed) → f.frame ≡ Header → is_header f ≡ true
header_frame f same = ap (λ k. is_header (framed k f.id f.clause)) same

pub frame_header : (kind : FrameKind) (id : List ℕ) (c : Clause) → is_header (framed kind id c) ≡ true → kind ≡ Header
frame_header Header id c is = refl
frame_header Term id c is = let h : false ≡ true = is in absurd (cc)
frame_header Typedef id c is = let h : false ≡ true = is in absurd (cc)
frame_header Instance id c is = let h : false ≡ true = is in absurd (cc)

term_frame : (kind : FrameKind) → is_term kind ≡ true → kind ≡ Term
term_frame Term is = refl
term_frame Header is = let h : false ≡ true = is in absurd (cc)
term_frame Typedef is = let h : false ≡ true = is in absurd (cc)
term_frame Instance is = let h : false ≡ true = is in absurd (cc)

same_term : (kind : FrameKind) → groups.is_term kind ≡ is_term kind
same_term Header = refl
same_term Term = refl
same_term Typedef = refl
same_term Instance = refl

raw_no_word : (v : Value) → is_raw v ≡ true → frames.word_in v ≡ None
raw_no_word (value.Raw text) is = refl
raw_no_word _ is = let h : false ≡ true = is in absurd (cc)

fits_raw : (v : Value) → FitsShape shapes.Raw v → is_raw v ≡ true
fits_raw (value.Raw text) fits = refl
fits_raw _ fits = absurd fits

-- ---- from placed clauses: each fits

abbrev is_first : Framed → Bool
is_first f = has_tag (codes "id") f && not (is_raw f.clause.value)

fits_first : (kind : FrameKind) (first : Bool) (clause : Clause) → Fits kind first clause → bytes_eq clause.tag (codes "id") ≡ true → is_raw clause.value ≡ false → Fits kind true clause
fits_first kind true clause fits tagged isnt = fits
fits_first kind false clause fits tagged isnt =
    let shape = ap (shape_at kind false) (same_bytes clause.tag (codes "id") tagged) ∙ later_id kind in
    absurd (both_ways (is_raw clause.value) isnt (fits_raw clause.value (subst (λ s. FitsShape s clause.value) shape fits.value)))

fits_later : (d : List Framed) → AreSound d → (f : Framed) → In f d → frames.id_in f.clause ≡ None → is_first f ≡ false → Fits f.frame (is_first f) f.clause
fits_later d are f here none isnt = subst (λ b. Fits f.frame b f.clause) (sym isnt) (later_fits d are f here none)

fits_each : (d : List Framed) → AreSound d → (f : Framed) → In f d → Fits f.frame (is_first f) f.clause
fits_each d are f here =
    ⊎_elim
    (λ tagged. ⊎_elim
    (λ raw. fits_later d are f here (ap (λ b. cond b (frames.word_in f.clause.value) None) tagged ∙ raw_no_word f.clause.value raw) (λ i. tagged i && not (raw i)))
    (λ isnt.
    let spelled = are.spelled f here in
    let fits = fits_first f.frame spelled.first f.clause (spelled_fits f.frame spelled.first f.clause spelled.spelled) tagged isnt in
    subst (λ b. Fits f.frame b f.clause) (λ i. sym tagged i && not (sym isnt i)) fits)
    (cases_Bool (is_raw f.clause.value)))
    (λ isnt. fits_later d are f here (ap (λ b. cond b (frames.word_in f.clause.value) None) isnt) (λ i. isnt i && not (is_raw f.clause.value)))
    (cases_Bool (bytes_eq f.clause.tag (codes "id")))

abbrev lines_of : List ℕ → List ℕ → List Placed → List ℕ
lines_of tag space placed = map (λ one. one.line) (groups.short_in (groups.operands_in tag space placed))

-- ---- members of groups

abbrev is_member : List ℕ → List ℕ → Group → Framed → Bool
is_member space x g one = is_term one.frame && not (is_raw one.clause.value) && bytes_eq (iri_of one.id space) x && has_tag (group_tag g) one

abbrev clauses_in : List ℕ → List ℕ → Group → List Framed → List Clause
clauses_in space x g d = map (λ (one : Framed). one.clause) (filter (is_member space x g) d)

abbrev read : List ℕ → Group → Clause → Option ClassExpr
read space g clause = operand_plainly (reading_in space) g clause.value

record IsMember (space x : List ℕ) (g : Group) (one : Framed) : Type 0 where
  term : is_term one.frame ≡ true
  raw : is_raw one.clause.value ≡ false
  iri : iri_of one.id space ≡ x
  tag : one.clause.tag ≡ group_tag g

member_is : (space x : List ℕ) (g : Group) (one : Framed) → is_member space x g one ≡ true → IsMember space x g one
member_is space x g one is =
    let a = and_parts (is_term one.frame && not (is_raw one.clause.value) && bytes_eq (iri_of one.id space) x) (has_tag (group_tag g) one) is in
    let b = and_parts (is_term one.frame && not (is_raw one.clause.value)) (bytes_eq (iri_of one.id space) x) a.0 in
    let c = and_parts (is_term one.frame) (not (is_raw one.clause.value)) b.0 in
    record { term = c.0; raw = not-true (is_raw one.clause.value) c.1; iri = same_bytes (iri_of one.id space) x b.1; tag = same_bytes one.clause.tag (group_tag g) a.1 }

is_member_from : (space x : List ℕ) (g : Group) (one : Framed) → IsMember space x g one → is_member space x g one ≡ true
is_member_from space x g one is =
    (λ i. is.term i && not (is.raw i) && bytes_eq (is.iri i) x && bytes_eq (is.tag i) (group_tag g)) ∙ (λ i. bytes_eq-refl x i && bytes_eq-refl (group_tag g) i)

member_of : (space : List ℕ) (g : Group) (f : Framed) → group_of f ≡ Some g → IsMember space (iri_of f.id space) g f
member_of space g f has =
    let test = where_true_some (is_term f.frame && not (is_raw f.clause.value)) (group_with f.clause.tag) g has in
    let parts = and_parts (is_term f.frame) (not (is_raw f.clause.value)) test.0 in
    record { term = parts.0; raw = not-true (is_raw f.clause.value) parts.1; iri = refl; tag = tag_of_group f.clause.tag g test.1 }

group_from : (space x : List ℕ) (g : Group) (f : Framed) → IsMember space x g f → group_of f ≡ Some g
group_from space x g f is = (λ i. where_true (is.term i && not (is.raw i)) (group_with (is.tag i))) ∙ group_with_tag g

clause_among : (space x : List ℕ) (g : Group) (d : List Framed) (f : Framed) → In f d → IsMember space x g f → In f.clause (clauses_in space x g d)
clause_among space x g d f here is =
    In-map (λ (one : Framed). one.clause) f (filter (is_member space x g) d) (In-filter (is_member space x g) f d here (is_member_from space x g f is))

-- ---- operands

guarded : {X : Type 0} (test : Bool) (o : Option X) (x : X) → cond test o None ≡ Some x → (test ≡ true) × (o ≡ Some x)
guarded true o x is = (refl, is)
guarded false o x is = absurd (none-some x is)

-- the operand of a placed clause
operand_from : (tag space : List ℕ) (one : Placed) (operand : _) → groups.operand_in tag space one ≡ Some operand
    → (is_term one.frame ≡ true) × (one.clause.tag ≡ tag) × ((x : _) × (groups.expression_of space one.clause.value ≡ Some x) × (groups.operand_with one space x ≡ operand))
operand_from tag space one operand is =
    let test = guarded (groups.is_term one.frame && bytes_eq one.clause.tag tag) (option_map (groups.operand_with one space) (groups.expression_of space one.clause.value)) operand is in
    let parts = and_parts (groups.is_term one.frame) (bytes_eq one.clause.tag tag) test.0 in
    (sym (same_term one.frame) ∙ parts.0, same_bytes one.clause.tag tag parts.1, option_map_some (groups.operand_with one space) (groups.expression_of space one.clause.value) operand test.1)

operand_is : (tag space : List ℕ) (one : Placed) (x : _) → is_term one.frame ≡ true → one.clause.tag ≡ tag → groups.expression_of space one.clause.value ≡ Some x → groups.operand_in tag space one ≡ Some (groups.operand_with one space x)
operand_is tag space one x term tagged is =
    let tested : (groups.is_term one.frame && bytes_eq one.clause.tag tag) ≡ true =
    (λ i. same_term one.frame i && bytes_eq (tagged i) tag) ∙ (λ i. term i && bytes_eq tag tag) ∙ bytes_eq-refl tag in
    λ i. cond (tested i) (option_map (groups.operand_with one space) (is i)) None

-- ---- where none is alone

not_false : (b : Bool) → not b ≡ false → b ≡ true
not_false true is = refl
not_false false is = let h : true ≡ false = is in absurd (cc)

left_none : {X Y : Type 0} (test : X → Bool) (f : X → Y) (xs : List X) → ((x : X) → In x xs → test x ≡ false) → map f (filter test xs) ≡ []
left_none test f [] none = refl
left_none test f (y ∷ xs) none =
    ap (λ b. map f (cond b (y ∷ filter test xs) (filter test xs))) (none y (inl refl)) ∙ left_none test f xs (λ x later. none x (inr later))

module _ {P O : Type 0} (part : P → Option O) (line : O → ℕ) (differs : O → O → Bool) (ps : List P) where
  -- one that differs from it is among the parts
  abbrev HasOther : O → Type 0
  HasOther o = (q : P) × In q ps × ((r : O) × (part q ≡ Some r) × (differs o r ≡ true))

  alone : O → Bool
  alone o = not (list_any (differs o) (filter_map part ps))

  pub has_other : map line (filter (λ o. not (list_any (differs o) (filter_map part ps))) (filter_map part ps)) ≡ [] → (p : P) (o : O) → In p ps → part p ≡ Some o → HasOther o
  has_other none p o here is =
      let among = In-filter_map part o ps p here is in
      let test = λ (o : O). not (list_any (differs o) (filter_map part ps)) in
      let isnt : test o ≡ false = false_from_ne_true (test o) (λ alone. subst (λ ys. In (line o) ys) none (In-map line o (filter test (filter_map part ps)) (In-filter test o (filter_map part ps) among alone))) in
      let r = in_from_any (differs o) (filter_map part ps) (not_false (list_any (differs o) (filter_map part ps)) isnt) in
      let q = In-from_filter_map part r.0 ps r.1 in
      (q.0, q.1, (r.0, q.2, r.2))

  pub none_alone : ((p : P) (o : O) → In p ps → part p ≡ Some o → HasOther o) → map line (filter (λ o. not (list_any (differs o) (filter_map part ps))) (filter_map part ps)) ≡ []
  none_alone others =
      left_none (λ o. not (list_any (differs o) (filter_map part ps))) line (filter_map part ps) (λ o among.
      let p = In-from_filter_map part o ps among in
      let other = others p.0 o p.1 p.2 in
      ap not (any_from_in (differs o) (filter_map part ps) other.2.0 (In-filter_map part other.2.0 ps other.0 other.1 other.2.1) other.2.2))

-- all operands stand for what some value stands for
all_read : (space x : List ℕ) (g : Group) (d : List Framed) (operands : List ClassExpr) → each_some (read space g) (clauses_in space x g d) ≡ Some operands → AreRead space g operands
all_read space x g d operands found e here =
    let c = each_some-parts (read space g) (clauses_in space x g d) operands found e here in (c.0.value, c.2)

-- ---- no short lines: two operands

module _ (space : List ℕ) (placed : List Placed) (g : Group) where
  abbrev d : List Framed
  d = map unlined placed

  pub two_from : lines_of (group_tag g) space placed ≡ [] → (f : Framed) (operands : List ClassExpr) → In f d → group_of f ≡ Some g
      → each_some (read space g) (clauses_in space (iri_of f.id space) g d) ≡ Some operands → 2 ≤ length (sorted_by expr_text operands)
  two_from none f operands here has found =
      let x = iri_of f.id space in
      let is = member_of space g f has in
      let p = In-from_map unlined f placed here in
      let one = p.0 in
      let e = each_some-items (read space g) (clauses_in space x g d) operands found f.clause (clause_among space x g d f here is) in
      let plain_one : operand_plainly (reading_in space) g one.clause.value ≡ Some e.0 = ap (λ (h : Framed). operand_plainly (reading_in space) g h.clause.value) p.2 ∙ e.2 in
      let counted = some_value (groups.expression_of space one.clause.value) (read_counted space g one.clause.value e.0 plain_one) in
      let other = has_other (groups.operand_in (group_tag g) space) _ groups.differs placed none one (groups.operand_with one space counted.0) p.1
      (operand_is (group_tag g) space one counted.0 (ap (λ (h : Framed). is_term h.frame) p.2 ∙ is.term) (ap (λ (h : Framed). h.clause.tag) p.2 ∙ is.tag) counted.1) in
      let two = other.0 in
      let from = operand_from (group_tag g) space two other.2.0 other.2.1 in
      let y = from.2 in
      let differs : (bytes_eq (iri_of two.id space) (iri_of one.id space) && not (groups.same_expression counted.0 y.0)) ≡ true =
      ap (groups.differs (groups.operand_with one space counted.0)) y.2 ∙ other.2.2 in
      let apart = and_parts (bytes_eq (iri_of two.id space) (iri_of one.id space)) (not (groups.same_expression counted.0 y.0)) differs in
      let f' = unlined two in
      let is' : IsMember space x g f' = record {
        term = from.0;
        raw = counted_not_raw space two.clause.value y.0 y.1;
        iri = same_bytes (iri_of two.id space) (iri_of one.id space) apart.0 ∙ ap (λ (h : Framed). iri_of h.id space) p.2;
        tag = from.1;
      } in
      let e' = each_some-items (read space g) (clauses_in space x g d) operands found f'.clause (clause_among space x g d f' (In-map unlined two placed other.1) is') in
      two_read space g operands e.0 e'.0 (all_read space x g d operands found) e.1 e'.1 (λ same.
      both_ways (groups.same_expression counted.0 y.0) (not-true (groups.same_expression counted.0 y.0) apart.1)
      (sym (values_counted space one.clause.value two.clause.value counted.0 y.0 counted.1 y.1) ∙ same_counted space g one.clause.value two.clause.value e.0 e'.0 plain_one e'.2 same))

  -- ---- two operands: no short lines

  abbrev pub AllHaveTwo : Type 0
  AllHaveTwo = (f : Framed) (operands : List ClassExpr) → In f d → group_of f ≡ Some g
      → each_some (read space g) (clauses_in space (iri_of f.id space) g d) ≡ Some operands → 2 ≤ length (sorted_by expr_text operands)

  -- the placed clause of one of the operands
  record IsPlacedOperand (x : List ℕ) (e : ClassExpr) : Type 0 where
    one : Placed
    among : In one placed
    is : IsMember space x g (unlined one)
    plain : operand_plainly (reading_in space) g one.clause.value ≡ Some e

  placed_operand : (x : List ℕ) (operands : List ClassExpr) → each_some (read space g) (clauses_in space x g d) ≡ Some operands → (e : ClassExpr) → In e operands → IsPlacedOperand x e
  placed_operand x operands found e here =
      let c = each_some-parts (read space g) (clauses_in space x g d) operands found e here in
      let m = In-from_map (λ (one : Framed). one.clause) c.0 (filter (is_member space x g) d) c.1 in
      let kept = In-from_filter (is_member space x g) m.0 d m.1 in
      let q = In-from_map unlined m.0 placed kept.0 in
      record {
        one = q.0;
        among = q.1;
        is = subst (IsMember space x g) (sym q.2) (member_is space x g m.0 kept.1);
        plain = ap (λ (h : Framed). operand_plainly (reading_in space) g h.clause.value) q.2 ∙ ap (λ (k : Clause). operand_plainly (reading_in space) g k.value) m.2 ∙ c.2;
      }

  pub none_from : ((m : Framed) → In m d → is_term m.frame ≡ true → m.clause.tag ≡ group_tag g → is_raw m.clause.value ≡ false → FitsShape (shape_in g) m.clause.value) → AllHaveTwo → lines_of (group_tag g) space placed ≡ []
  none_from fits all =
      none_alone (groups.operand_in (group_tag g) space) _ groups.differs placed (λ one operand here_one is_operand.
      let from = operand_from (group_tag g) space one operand is_operand in
      let y = from.2 in
      let f = unlined one in
      let here = In-map unlined one placed here_one in
      let x = iri_of f.id space in
      let is : IsMember space x g f = record { term = from.0; raw = counted_not_raw space one.clause.value y.0 y.1; iri = refl; tag = from.1 } in
      let each = some_value (each_some (read space g) (clauses_in space x g d)) (each_some-some (read space g) (clauses_in space x g d) (λ c here_c.
      let m = In-from_map (λ (h : Framed). h.clause) c (filter (is_member space x g) d) here_c in
      let kept = In-from_filter (is_member space x g) m.0 d m.1 in
      let is_m = member_is space x g m.0 kept.1 in
      subst (λ (k : Clause). IsSome (read space g k)) m.2 (some_operand (reading_in space) g m.0.clause.value (fits m.0 kept.0 is_m.term is_m.tag is_m.raw)))) in
      let own = each_some-items (read space g) (clauses_in space x g d) each.0 each.1 f.clause (clause_among space x g d f here is) in
      let two = has_two each.0 (all f each.0 here (group_from space x g f is) each.1) in
      let one_or = λ (e : ClassExpr) (there : In e each.0).
      (let q = placed_operand x each.0 each.1 e there in
      let counted = some_value (groups.expression_of space q.one.clause.value) (read_counted space g q.one.clause.value e q.plain) in
      let r = groups.operand_with q.one space counted.0 in
      let same = values_counted space one.clause.value q.one.clause.value y.0 counted.0 y.1 counted.1 in
      let grouped : bytes_eq (iri_of q.one.id space) (iri_of one.id space) ≡ true = subst (λ t. bytes_eq (iri_of q.one.id space) t ≡ true) q.is.iri (bytes_eq-refl (iri_of q.one.id space)) in
      elim (groups.same_expression y.0 counted.0) as (λ b. groups.same_expression y.0 counted.0 ≡ b
      → (own.0 ≡ e) ⊎ HasOther (groups.operand_in (group_tag g) space) (λ o. o.line) groups.differs placed operand) [
        | true ↦ λ yes. inl (counted_same space g one.clause.value q.one.clause.value own.0 e own.2 q.plain (same ∙ yes))
        | false ↦ λ isnt. inr (q.one, q.among, (r, operand_is (group_tag g) space q.one counted.0 q.is.term q.is.tag counted.1, sym (ap (λ o. groups.differs o r) y.2) ∙ (λ i. grouped i && not (isnt i))))
      ] refl) in
      ⊎_elim (λ first. ⊎_elim (λ second. absurd (two.apart (sym first ∙ second))) (λ other. other) (one_or two.other two.there)) (λ other. other) (one_or two.one two.here))

-- ---- from placed clauses to sets of clauses

nil_parts : {X : Type 0} (xs ys : List X) → xs ++ ys ≡ [] → (xs ≡ []) × (ys ≡ [])
nil_parts [] ys h = (refl, h)
nil_parts (x ∷ xs) ys h = absurd (cc)

pub sound_from : (placed : List Placed) → IsKept placed → IsSound (map unlined placed)
unfolding situation_of
sound_from placed kept =
    let d = map unlined placed in
    let are = sound_of placed kept in
    let lines = nil_parts (groups.short_lines_of (codes "intersection_of") placed) (groups.short_lines_of (codes "union_of") placed) kept.groups in
    let space = same_space d in
    let one : lines_of (codes "intersection_of") (space_of d) placed ≡ [] = ap (λ s. lines_of (codes "intersection_of") s placed) space ∙ lines.0 in
    let other : lines_of (codes "union_of") (space_of d) placed ≡ [] = ap (λ s. lines_of (codes "union_of") s placed) space ∙ lines.1 in
    record {
      fits = fits_each d are;
      ids = λ f here isnt. are.heads f here (λ header. both_ways (is_header f) isnt (header_frame f header));
      header = λ f here is. (are.header f here).0 (frame_header f.frame f.id f.clause is);
      groups = λ f group operands here has found. two_each (space_of d) placed one other group f operands here has found;
    }
  where
    two_each : (space : List ℕ) (placed : List Placed) → lines_of (codes "intersection_of") space placed ≡ [] → lines_of (codes "union_of") space placed ≡ [] → (group : Group) → AllHaveTwo space placed group
    two_each space placed one other intersection f operands here has found = two_from space placed intersection one f operands here has found
    two_each space placed one other union f operands here has found = two_from space placed union other f operands here has found

-- ---- from sets of clauses to placed clauses

-- an `id` clause with a word is the bare one of its frame
abbrev pub AreBare : List Framed → Type 0
AreBare d = (f : Framed) → In f d → f.clause.tag ≡ codes "id" → (id : List ℕ) → f.clause.value ≡ value.Id id → f.clause ≡ id_clause f.id

id_word : (kind : FrameKind) (id : List ℕ) → (kind ≡ Header → ⊥) → Fits kind true (id_clause id) → IsWordText id
unfolding tags_of shape_of
id_word Header id outside fits = absurd (outside refl)
id_word Term id outside fits = fits.value
id_word Typedef id outside fits = fits.value
id_word Instance id outside fits = fits.value

not_empty : (id : List ℕ) → 0 < length id → id ≡ [] → ⊥
not_empty id some none = let h : length id ≡ 0 = ap length none in omega (arith, some, h)

header_or_not : (kind : FrameKind) → (kind ≡ Header) ⊎ (kind ≡ Header → ⊥)
header_or_not Header = inl refl
header_or_not Term = inr (λ h. cc)
header_or_not Typedef = inr (λ h. cc)
header_or_not Instance = inr (λ h. cc)

same_word : (one other : List ℕ) → value.Id one ≡ value.Id other → one ≡ other
same_word one other same = cc

group_shape : (g : Group) → shape_at Term false (group_tag g) ≡ shape_in g
unfolding tags_of shape_of
group_shape intersection = refl
group_shape union = refl

no_id_tag : (g : Group) → bytes_eq (group_tag g) (codes "id") ≡ false
no_id_tag intersection = refl
no_id_tag union = refl

pub kept_from : (placed : List Placed) → IsSound (map unlined placed) → AreBare (map unlined placed) → IsKept placed
unfolding situation_of
kept_from placed sound bare =
    let d = map unlined placed in
    let among : (one : Placed) → Contains placed one → In (unlined one) d = λ one here. In-map unlined one placed (In-from_contains one placed here) in
    let outside : (one : Placed) → (one.frame ≡ Header → ⊥) → is_header (unlined one) ≡ false = λ one isnt. false_from_ne_true (is_header (unlined one)) (λ is. isnt (frame_header one.frame one.id one.clause is)) in
    let space = same_space d in
    let fits : (g : Group) (m : Framed) → In m d → is_term m.frame ≡ true → m.clause.tag ≡ group_tag g → is_raw m.clause.value ≡ false → FitsShape (shape_in g) m.clause.value = λ g m here term tag raw.
    (let later : is_first m ≡ false = (λ i. bytes_eq (tag i) (codes "id") && not (is_raw m.clause.value)) ∙ (λ i. no_id_tag g i && not (is_raw m.clause.value)) in
    let kind = term_frame m.frame term in
    let shape : shape_at m.frame (is_first m) m.clause.tag ≡ shape_in g = (λ i. shape_at (kind i) (later i) (tag i)) ∙ group_shape g in
    subst (λ s. FitsShape s m.clause.value) shape (sound.fits m here).value) in
    let short : (g : Group) → groups.short_lines_of (group_tag g) placed ≡ [] = λ g.
    ap (λ s. lines_of (group_tag g) s placed) (sym space) ∙ none_from (space_of d) placed g (fits g) (λ f operands here has found. sound.groups f g operands here has found) in
    record {
      spelled = λ one here. (let f = unlined one in record { first = is_first f; spelled = fit_is_spelled one.frame (is_first f) one.clause (sound.fits f (among one here)) });
      header = λ one here. (
        (λ is. sound.header (unlined one) (among one here) (header_frame (unlined one) is)),
        (λ empty. ⊎_elim (λ is. is) (λ isnt.
            let head = sound.ids (unlined one) (among one here) (outside one isnt) in
            absurd (not_empty one.id (id_word one.frame one.id isnt (sound.fits (framed one.frame one.id (id_clause one.id)) head)).some empty)) (header_or_not one.frame)),
      );
      ids = λ one id here gives.
          (let is = bare (unlined one) (among one here) gives.tag id gives.value in
          record { same = same_word id one.id (sym gives.value ∙ ap (λ (c : Clause). c.value) is); bare = ap (λ (c : Clause). c.qualifiers) is });
      frames = λ one here isnt.
          (let head = In-from_map unlined (framed one.frame one.id (id_clause one.id)) placed (sound.ids (unlined one) (among one here) (outside one isnt)) in
          record {
            head = head.0;
            among = contains-from_In head.0 placed head.1;
            kind = ap (λ (f : Framed). f.frame) head.2;
            id = ap (λ (f : Framed). f.id) head.2;
            gives = record { tag = ap (λ (f : Framed). f.clause.tag) head.2; value = ap (λ (f : Framed). f.clause.value) head.2 };
          });
      groups = (let a = short intersection in let b = short union in λ i. a i ++ b i);
    }
