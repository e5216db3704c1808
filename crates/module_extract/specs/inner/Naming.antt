-- Names put behind one another. (Own.)
use Rattle.std.specs.Prelude.{List, [], ◌∷◌, ◌++◌, flat_map}
use Rattle.owl_axioms.specs.Names.{names_in}
use Rattle.owl_axioms.specs.declared.expr.ClassExpr.{ClassExpr}
use Rattle.owl_axioms.specs.declared.name.Name.{Name}

-- names put behind a list, one after another
unfoldable pub pushed : List Name → List Name → List Name
pushed names [] = names
pushed names (n ∷ more) = pushed (names ++ n ∷ []) more

-- the names in expressions
abbrev pub names_list : List ClassExpr → List Name
names_list exprs = flat_map names_in exprs
