-- The IRIs of the entities that OWL, RDF Schema and XML Schema give a name. (OWL 2 Structural Specification, section 2.4
-- and the built-in entities of section 5; RDF Schema 1.1; XML Schema Definition 1.1, part 2.)
use Rattle.std.specs.Prelude.{ℕ, List, ◌++◌, codes}

-- the class of all things, and that of none
unfoldable pub owl_thing : List ℕ
owl_thing = codes "http://www.w3.org/2002/07/owl#Thing"

unfoldable pub owl_nothing : List ℕ
owl_nothing = codes "http://www.w3.org/2002/07/owl#Nothing"

-- the annotation property of what is no longer to be used
unfoldable pub owl_deprecated : List ℕ
owl_deprecated = codes "http://www.w3.org/2002/07/owl#deprecated"

-- the annotation properties of names and of remarks
unfoldable pub rdfs_label : List ℕ
rdfs_label = codes "http://www.w3.org/2000/01/rdf-schema#label"

unfoldable pub rdfs_comment : List ℕ
rdfs_comment = codes "http://www.w3.org/2000/01/rdf-schema#comment"

-- what the IRI of each datatype of XML Schema begins with
unfoldable pub xsd : List ℕ
xsd = codes "http://www.w3.org/2001/XMLSchema#"

-- the datatypes of texts and of truth values
unfoldable pub xsd_string : List ℕ
xsd_string = xsd ++ codes "string"

unfoldable pub xsd_boolean : List ℕ
xsd_boolean = xsd ++ codes "boolean"
