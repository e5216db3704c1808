-- The tags by name. (OBO Flat File Format 1.4, the header, the frames and their tags.)
use Rattle.std.specs.Prelude.{ℕ, List, codes}

-- the tags of the header
abbrev pub format_version : List ℕ
format_version = codes "format-version"

abbrev pub data_version : List ℕ
data_version = codes "data-version"

abbrev pub date : List ℕ
date = codes "date"

abbrev pub saved_by : List ℕ
saved_by = codes "saved-by"

abbrev pub auto_generated_by : List ℕ
auto_generated_by = codes "auto-generated-by"

abbrev pub import : List ℕ
import = codes "import"

abbrev pub subsetdef : List ℕ
subsetdef = codes "subsetdef"

abbrev pub synonymtypedef : List ℕ
synonymtypedef = codes "synonymtypedef"

abbrev pub default_namespace : List ℕ
default_namespace = codes "default-namespace"

abbrev pub idspace : List ℕ
idspace = codes "idspace"

abbrev pub remark : List ℕ
remark = codes "remark"

abbrev pub ontology : List ℕ
ontology = codes "ontology"

-- the tags of every frame behind the header
abbrev pub property_value : List ℕ
property_value = codes "property_value"

abbrev pub id : List ℕ
id = codes "id"

abbrev pub is_anonymous : List ℕ
is_anonymous = codes "is_anonymous"

abbrev pub name : List ℕ
name = codes "name"

abbrev pub namespace : List ℕ
namespace = codes "namespace"

abbrev pub alt_id : List ℕ
alt_id = codes "alt_id"

abbrev pub def : List ℕ
def = codes "def"

abbrev pub comment : List ℕ
comment = codes "comment"

abbrev pub subset : List ℕ
subset = codes "subset"

abbrev pub synonym : List ℕ
synonym = codes "synonym"

abbrev pub xref : List ℕ
xref = codes "xref"

abbrev pub created_by : List ℕ
created_by = codes "created_by"

abbrev pub creation_date : List ℕ
creation_date = codes "creation_date"

abbrev pub is_obsolete : List ℕ
is_obsolete = codes "is_obsolete"

abbrev pub replaced_by : List ℕ
replaced_by = codes "replaced_by"

abbrev pub consider : List ℕ
consider = codes "consider"

-- other tags of Terms
abbrev pub builtin : List ℕ
builtin = codes "builtin"

abbrev pub is_a : List ℕ
is_a = codes "is_a"

abbrev pub intersection_of : List ℕ
intersection_of = codes "intersection_of"

abbrev pub union_of : List ℕ
union_of = codes "union_of"

abbrev pub equivalent_to : List ℕ
equivalent_to = codes "equivalent_to"

abbrev pub disjoint_from : List ℕ
disjoint_from = codes "disjoint_from"

abbrev pub relationship : List ℕ
relationship = codes "relationship"

-- other tags of Typedefs
abbrev pub domain : List ℕ
domain = codes "domain"

abbrev pub range : List ℕ
range = codes "range"

abbrev pub is_anti_symmetric : List ℕ
is_anti_symmetric = codes "is_anti_symmetric"

abbrev pub is_cyclic : List ℕ
is_cyclic = codes "is_cyclic"

abbrev pub is_reflexive : List ℕ
is_reflexive = codes "is_reflexive"

abbrev pub is_symmetric : List ℕ
is_symmetric = codes "is_symmetric"

abbrev pub is_asymmetric : List ℕ
is_asymmetric = codes "is_asymmetric"

abbrev pub is_transitive : List ℕ
is_transitive = codes "is_transitive"

abbrev pub is_functional : List ℕ
is_functional = codes "is_functional"

abbrev pub is_inverse_functional : List ℕ
is_inverse_functional = codes "is_inverse_functional"

abbrev pub holds_over_chain : List ℕ
holds_over_chain = codes "holds_over_chain"

abbrev pub transitive_over : List ℕ
transitive_over = codes "transitive_over"

abbrev pub inverse_of : List ℕ
inverse_of = codes "inverse_of"

abbrev pub is_metadata_tag : List ℕ
is_metadata_tag = codes "is_metadata_tag"

abbrev pub is_class_level : List ℕ
is_class_level = codes "is_class_level"

-- other tags of Instances
abbrev pub instance_of : List ℕ
instance_of = codes "instance_of"
