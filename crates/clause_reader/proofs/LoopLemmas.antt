-- What the loops over lists of xrefs and of qualifiers keep true.
use Rattle.std.proofs.Common.{◌≡◌, ℕ, suc, ◌+◌, ◌-◌, ◌<◌, ◌≤◌, List, [], ◌∷◌, ◌++◌, Option, Some, None, Ok, Err, refl, sym, ap, ◌∙◌, arith}
use Rattle.std.specs.Option.{option_map}
use Rattle.std.proofs.lemmas.List.{append_assoc}
use Rattle.obo_clause.specs.declared.clause.Qualifier.{Qualifier}
use Rattle.obo_clause.specs.declared.clause.Xref.{Xref}
use Rattle.obo_clause.specs.declared.line.SyntaxKind.{SyntaxKind}
use Rattle.obo_clause.specs.declared.line.SyntaxKind.TheVariants.{XrefList}
use Rattle.obo_clause.specs.declared.mark.MarkedByte.{MarkedByte}
use Rattle.obo_clause.specs.Reading.{Answer, Field, behind_sign, behind_blanks, block_end, field_at, found, list_end, next, qualifier_of, qualifiers_from, slot_at, slots_from, wanted, xrefs_of}

-- an answer with xrefs before it
abbrev pub onto : List Xref → Answer (List Xref × List MarkedByte) → Answer (List Xref × List MarkedByte)
onto made answer = next answer (λ read. Ok (made ++ read.0, read.1))

onto-onto : (made more : List Xref) (answer : Answer (List Xref × List MarkedByte)) → onto made (onto more answer) ≡ onto (made ++ more) answer
onto-onto made more (Ok read) = ap (λ xrefs. Ok (xrefs, read.1)) (sym (append_assoc made more read.0))
onto-onto made more (Err one) = refl

onto-end : (made more : List Xref) (marks : List MarkedByte) → onto made (list_end more marks) ≡ list_end (made ++ more) marks
onto-end made more marks =
    elim (behind_sign 93 marks) as (λ o. onto made (next (wanted XrefList o) (λ rest. Ok (more, rest))) ≡ next (wanted XrefList o) (λ rest. Ok (made ++ more, rest))) [ None ↦ refl | Some rest ↦ refl ]

onto-none : (answer : Answer (List Xref × List MarkedByte)) → onto [] answer ≡ answer
onto-none (Ok read) = refl
onto-none (Err one) = refl

-- the list read from the marks is these xrefs and the list read from the rest
pub record ListsOn (marks : List MarkedByte) (all : ℕ) (made : List Xref) (rest : List MarkedByte) (done : ℕ) : Type 0 where
  pub same : slots_from all marks ≡ onto made (slots_from (all - done) rest)

one-more : (all done : ℕ) → done < all → all - done ≡ suc (all - (done + 1))
one-more all done less = omega arith

module _ (marks : List MarkedByte) (all : ℕ) (made : List Xref) (rest : List MarkedByte) (done : ℕ) where
  pub lists-fail : (one : SyntaxKind) → ListsOn marks all made rest done → done < all → slot_at rest ≡ Err one → slots_from all marks ≡ Err one
  unfolding slots_from
  lists-fail one on less e = on.same ∙ (ap (λ n. onto made (slots_from n rest)) (one-more all done less) ∙ rw e refl)

  module _ (id : List MarkedByte) (label : Option (List MarkedByte)) (behind : List MarkedByte) where
    pub lists-end : ListsOn marks all made rest done → done < all → slot_at rest ≡ Ok (id, label, behind) → behind_sign 44 behind ≡ None → slots_from all marks ≡ list_end (made ++ xrefs_of id label) behind
    unfolding slots_from
    lists-end on less e last =
        on.same ∙ (ap (λ n. onto made (slots_from n rest)) (one-more all done less) ∙ rw (e, last) (onto-end made (xrefs_of id label) behind))

    pub lists-on : (more : List MarkedByte) → ListsOn marks all made rest done → done < all → slot_at rest ≡ Ok (id, label, behind) → behind_sign 44 behind ≡ Some more → ListsOn marks all (made ++ xrefs_of id label) more (done + 1)
    unfolding slots_from
    lists-on more on less e later =
        record { same = on.same ∙ (ap (λ n. onto made (slots_from n rest)) (one-more all done less) ∙ rw (e, later) (onto-onto made (xrefs_of id label) (slots_from (all - (done + 1)) more))) }

pub lists-none : (marks : List MarkedByte) (all : ℕ) (made : List Xref) (rest : List MarkedByte) (done : ℕ) → ListsOn marks all made rest done → all ≤ done → slots_from all marks ≡ Err XrefList
unfolding slots_from
lists-none marks all made rest done on least =
    let e : all - done ≡ 0 = omega arith in on.same ∙ ap (λ n. onto made (slots_from n rest)) e

-- what was found, with qualifiers before it
abbrev pub into : List Qualifier → Option (List Qualifier × List MarkedByte) → Option (List Qualifier × List MarkedByte)
into made found = option_map (λ (read : List Qualifier × List MarkedByte). (made ++ read.0, read.1)) found

into-into : (made : List Qualifier) (one : Qualifier) (found : Option (List Qualifier × List MarkedByte)) → into made (option_map (λ (read : List Qualifier × List MarkedByte). (one ∷ read.0, read.1)) found) ≡ into (made ++ one ∷ []) found
into-into made one (Some read) = ap (λ qualifiers. Some (qualifiers, read.1)) (sym (append_assoc made (one ∷ []) read.0))
into-into made one None = refl

into-end : (made : List Qualifier) (one : Qualifier) (marks : List MarkedByte) → into made (block_end (one ∷ []) marks) ≡ block_end (made ++ one ∷ []) marks
into-end made one marks =
    elim (behind_sign 125 marks) as (λ o. into made (option_map (λ (rest : List MarkedByte). (one ∷ [], rest)) o) ≡ option_map (λ (rest : List MarkedByte). (made ++ one ∷ [], rest)) o) [ None ↦ refl | Some rest ↦ refl ]

into-none : (found : Option (List Qualifier × List MarkedByte)) → into [] found ≡ found
into-none (Some read) = refl
into-none None = refl

-- the block read from the marks is these qualifiers and the block read from the rest
pub record BlocksOn (marks : List MarkedByte) (all : ℕ) (made : List Qualifier) (rest : List MarkedByte) (done : ℕ) : Type 0 where
  pub same : qualifiers_from all marks ≡ into made (qualifiers_from (all - done) rest)

module _ (marks : List MarkedByte) (all : ℕ) (made : List Qualifier) (rest : List MarkedByte) (done : ℕ) where
  pub blocks-fail : BlocksOn marks all made rest done → done < all → field_at rest ≡ None → qualifiers_from all marks ≡ None
  unfolding qualifiers_from
  blocks-fail on less e =
      on.same ∙ (ap (λ n. into made (qualifiers_from n rest)) (one-more all done less) ∙ rw e refl)

  module _ (field : Field) where
    pub blocks-end : BlocksOn marks all made rest done → done < all → field_at rest ≡ Some field → behind_sign 44 field.2 ≡ None → qualifiers_from all marks ≡ block_end (made ++ qualifier_of field ∷ []) field.2
    unfolding qualifiers_from
    blocks-end on less e last =
        on.same ∙ (ap (λ n. into made (qualifiers_from n rest)) (one-more all done less) ∙ rw (e, last) (into-end made (qualifier_of field) field.2))

    pub blocks-on : (more : List MarkedByte) → BlocksOn marks all made rest done → done < all → field_at rest ≡ Some field → behind_sign 44 field.2 ≡ Some more → BlocksOn marks all (made ++ qualifier_of field ∷ []) (behind_blanks more) (done + 1)
    unfolding qualifiers_from
    blocks-on more on less e later =
        record { same = on.same ∙ (ap (λ n. into made (qualifiers_from n rest)) (one-more all done less) ∙ rw (e, later) (into-into made (qualifier_of field) (qualifiers_from (all - (done + 1)) (behind_blanks more)))) }

pub blocks-none : (marks : List MarkedByte) (all : ℕ) (made : List Qualifier) (rest : List MarkedByte) (done : ℕ) → BlocksOn marks all made rest done → all ≤ done → qualifiers_from all marks ≡ None
unfolding qualifiers_from
blocks-none marks all made rest done on least =
    let e : all - done ≡ 0 = omega arith in on.same ∙ ap (λ n. into made (qualifiers_from n rest)) e
