use Rattle.owl_ontology.specs.Ontology.{axioms_of}
use Rattle.module_extract.specs.inner.Setting.{IsSettingTo}
use Rattle.module_extract.proofs.setting.setting_of.Given as goal

abbrev pub invariant-axioms : goal.invariant-axioms
invariant-axioms l = IsSettingTo (axioms_of l.ontology.entries) l.part.items l.at l.pool l.plains.items l.table l.all.items
