-- Origins in their order. (Own.)
use Rattle.std.specs.Prelude.{◌==◌, Bool, ◌&&◌, ◌||◌, if◌then◌else◌, nat_lt}
use Rattle.owl_ontology.specs.declared.origin.Origin.{Origin}

-- by file, and in one file by line
abbrev pub comes_before : Origin → Origin → Bool
comes_before one other = nat_lt one.file other.file || (one.file == other.file && nat_lt one.line other.line)

-- the lesser of two origins
abbrev pub lesser : Origin → Origin → Origin
lesser one other = if comes_before other one then other else one
