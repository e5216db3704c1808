-- The tags of a frame, in the order in which they are printed, and what value each one has
-- (OBO Flat File Format 1.4, the header, the frames and their tags).
use Rattle.std.specs.Prelude.{ℕ, Bool, ◌||◌, List, [], ◌∷◌, ◌++◌, None, Option, Some, codes, is_some, nat_eq, position, if◌then◌else◌}
use Rattle.std.specs.List.{list_any, starts_with}
use Rattle.std.specs.Str.{bytes_eq}
use Rattle.obo_tags.specs.Tags as tags
use Rattle.obo_tags.specs.declared.kind.FrameKind.{FrameKind}
use Rattle.obo_tags.specs.declared.kind.FrameKind.TheVariants.{Header, Instance, Term, Typedef}
use Rattle.obo_tags.specs.declared.kind.ValueShape.{ValueShape}
use Rattle.obo_tags.specs.declared.kind.ValueShape.TheVariants as shapes

-- the tags of each frame kind, in printed order
unfoldable pub tags_of : FrameKind → List (List ℕ)
tags_of Header =
    tags.format_version ∷ tags.data_version ∷ tags.date ∷ tags.saved_by ∷
    tags.auto_generated_by ∷ tags.import ∷ tags.subsetdef ∷ tags.synonymtypedef ∷
    tags.default_namespace ∷ tags.idspace ∷ tags.remark ∷ tags.ontology ∷
    tags.property_value ∷ []
tags_of Term =
    tags.id ∷ tags.is_anonymous ∷ tags.name ∷ tags.namespace ∷ tags.alt_id ∷
    tags.def ∷ tags.comment ∷ tags.subset ∷ tags.synonym ∷ tags.xref ∷
    tags.builtin ∷ tags.property_value ∷ tags.is_a ∷ tags.intersection_of ∷
    tags.union_of ∷ tags.equivalent_to ∷ tags.disjoint_from ∷ tags.relationship ∷
    tags.created_by ∷ tags.creation_date ∷ tags.is_obsolete ∷ tags.replaced_by ∷
    tags.consider ∷ []
tags_of Typedef =
    tags.id ∷ tags.is_anonymous ∷ tags.name ∷ tags.namespace ∷ tags.alt_id ∷
    tags.def ∷ tags.comment ∷ tags.subset ∷ tags.synonym ∷ tags.xref ∷
    tags.builtin ∷ tags.property_value ∷ tags.domain ∷ tags.range ∷
    tags.is_anti_symmetric ∷ tags.is_cyclic ∷ tags.is_reflexive ∷ tags.is_symmetric ∷
    tags.is_asymmetric ∷ tags.is_transitive ∷ tags.is_functional ∷
    tags.is_inverse_functional ∷ tags.is_a ∷ tags.holds_over_chain ∷
    tags.transitive_over ∷ tags.equivalent_to ∷ tags.disjoint_from ∷ tags.inverse_of ∷
    tags.is_metadata_tag ∷ tags.is_class_level ∷ tags.created_by ∷ tags.creation_date ∷
    tags.is_obsolete ∷ tags.replaced_by ∷ tags.consider ∷ []
tags_of Instance =
    tags.id ∷ tags.is_anonymous ∷ tags.name ∷ tags.namespace ∷ tags.alt_id ∷
    tags.def ∷ tags.comment ∷ tags.subset ∷ tags.synonym ∷ tags.xref ∷
    tags.property_value ∷ tags.instance_of ∷ tags.relationship ∷ tags.created_by ∷
    tags.creation_date ∷ tags.is_obsolete ∷ tags.replaced_by ∷ tags.consider ∷ []

-- whether a tag is one of these
abbrev pub is_among : List (List ℕ) → List ℕ → Bool
is_among tags tag = list_any (λ one. bytes_eq one tag) tags

-- the tags of all frame kinds
abbrev pub every_tag : List (List ℕ)
every_tag = tags_of Header ++ tags_of Term ++ tags_of Typedef ++ tags_of Instance

-- whether some frame kind has the tag
unfoldable pub is_known : List ℕ → Bool
is_known tag = is_among every_tag tag

-- the place of a tag among those of the frame kind, from 0: none where it is foreign there
abbrev pub place_of : FrameKind → List ℕ → Option ℕ
place_of kind tag = position (λ one. bytes_eq one tag) (tags_of kind)

-- the tags whose value is a text, an id and a pair of ids
abbrev pub text_tags : List (List ℕ)
text_tags =
    tags.format_version ∷ tags.data_version ∷ tags.date ∷ tags.saved_by ∷
    tags.auto_generated_by ∷ tags.default_namespace ∷ tags.idspace ∷ tags.remark ∷
    tags.name ∷ tags.namespace ∷ tags.comment ∷ tags.created_by ∷
    tags.creation_date ∷ []

abbrev pub id_tags : List (List ℕ)
id_tags =
    tags.id ∷ tags.import ∷ tags.ontology ∷ tags.alt_id ∷ tags.subset ∷
    tags.is_a ∷ tags.union_of ∷ tags.equivalent_to ∷ tags.disjoint_from ∷
    tags.replaced_by ∷ tags.consider ∷ tags.domain ∷ tags.range ∷
    tags.transitive_over ∷ tags.inverse_of ∷ tags.instance_of ∷ []

abbrev pub pair_tags : List (List ℕ)
pair_tags = tags.relationship ∷ tags.holds_over_chain ∷ []

-- whether a tag's value is a truth value: `builtin`, and each tag that begins with `is_`. `is_a` is an id
abbrev pub is_bool_tag : List ℕ → Bool
is_bool_tag tag = bytes_eq tag (tags.builtin) || starts_with nat_eq tag (codes "is_")

-- the shape of a tag's value
unfoldable pub shape_of : List ℕ → ValueShape
shape_of tag =
    if is_among text_tags tag then shapes.Text
    else (if is_among id_tags tag then shapes.Id
    else (if is_among pair_tags tag then shapes.Pair
    else (if bytes_eq tag (tags.intersection_of) then shapes.IdOrPair
    else (if is_bool_tag tag then shapes.Bool
    else (if bytes_eq tag (tags.def) then shapes.Def
    else (if bytes_eq tag (tags.synonym) then shapes.Synonym
    else (if bytes_eq tag (tags.xref) then shapes.XrefShape
    else (if bytes_eq tag (tags.property_value) then shapes.Property
    else (if bytes_eq tag (tags.subsetdef) then shapes.SubsetDef
    else (if bytes_eq tag (tags.synonymtypedef) then shapes.SynonymDef
    else shapes.Raw))))))))))

-- the shape of a tag's value in a frame of the kind: Raw where the tag is foreign there
abbrev pub shape_in : FrameKind → List ℕ → ValueShape
shape_in kind tag = if is_some (place_of kind tag) then shape_of tag else shapes.Raw

-- the shape of a value behind a tag, if it is one that is known
abbrev pub shape_behind : FrameKind → Option (List ℕ) → ValueShape
shape_behind kind None = shapes.Raw
shape_behind kind (Some tag) = shape_in kind tag
