-- Documents with their lines: the clauses that are not translated, and the line of each axiom. (Own.)
use Rattle.std.specs.Prelude.{ℕ, false, ◌&&◌, List, [], ◌∷◌, ◌++◌, codes, if◌then◌else◌, Option, map, filter}
use Rattle.std.specs.List.{list_any}
use Rattle.std.specs.Option.{option_map_or, option_or, option_to_list}
use Rattle.obo_frames.specs.Framed.{Framed, unlined}
use Rattle.obo_frames.specs.declared.placed.Placed.{Placed}
use Rattle.owl_axioms.specs.Same.{same_axiom}
use Rattle.owl_axioms.specs.declared.body.Axiom.{Axiom}
use Rattle.text_sets.specs.Sorted.{sorted_by}
use Rattle.obo_notes.specs.Forms.{first_part}
use Rattle.obo_mapping.specs.Axioms.{axioms_said, entity_of}
use Rattle.obo_mapping.specs.Documents.{group_said, has_tag, is_namespace, is_untranslatable, same_name, situation_of}

-- the clauses that are not translated, by line
unfoldable pub dropped : List Placed → List Placed
dropped document =
    let d = map unlined document in
    sorted_by (λ (one : Placed). one.line ∷ []) (filter (λ (one : Placed). is_untranslatable d (unlined one)) document)

-- what a clause says, by itself and with its group
abbrev pub said_by : List Framed → Framed → List Axiom
said_by d one =
    if is_untranslatable d one then [] else axioms_said (situation_of d) one ++ option_to_list (group_said (situation_of d) d one)

abbrev pub least_line : List Placed → Option ℕ
least_line clauses = first_part (sorted_by (λ line. line ∷ []) (map (λ (one : Placed). one.line) clauses))

-- the clauses that say the axiom
abbrev pub saying : List Placed → Axiom → List Placed
saying document said =
    let d = map unlined document in filter (λ (one : Placed). list_any (same_axiom said) (said_by d (unlined one))) document

-- the `id` clauses of the frame that has this namespace
abbrev pub named_by : List Placed → Axiom → List Placed
named_by document said =
    let situation = situation_of (map unlined document) in
    filter (λ (one : Placed). has_tag (codes "id") (unlined one)
    && option_map_or (λ name. option_map_or (same_name name) (entity_of situation one.frame one.id) false) (is_namespace said) false) document

-- the line of an axiom: the least of the clauses that say it, and of the `id` clauses of the frame where none does, as it is
-- with the namespace of a frame that has none
unfoldable pub line_of : List Placed → Axiom → Option ℕ
line_of document said = option_or (least_line (saying document said)) (least_line (named_by document said))
