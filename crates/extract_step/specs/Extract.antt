-- What an extract leaves of an ontology. (The role of the command `extract` of ROBOT, with its methods BOT, TOP and STAR.
-- Modules: Cuenca Grau, Horrocks, Kazakov and Sattler, JAIR 31 (2008). What is shipped: own.)
use Rattle.std.specs.Prelude.{ℕ, Bool, List}
use Rattle.chain_words.specs.declared.command.Method.{Method}
use Rattle.chain_words.specs.declared.command.Method.TheVariants as method
use Rattle.locality_tables.specs.declared.fills.ClassFill.TheVariants as class
use Rattle.locality_tables.specs.declared.fills.RoleFill.TheVariants as role
use Rattle.module_extract.specs.Least.{module_of}
use Rattle.module_extract.specs.Module.{fills_of, logical_flags}
use Rattle.module_extract.specs.Shipped.{shipped_flags}
use Rattle.owl_axioms.specs.Names.{Scope}
use Rattle.owl_axioms.specs.Signature.{scope_of}
use Rattle.owl_axioms.specs.declared.body.Axiom.{Axiom}
use Rattle.owl_ontology.specs.Ontology.{OntologyState, axioms_of, flagged}
use Rattle.seed_list.specs.declared.seed.Seed.{Seed}
use Rattle.star_module.specs.Star.{bottom_and_top}
use Rattle.star_module.specs.StarOf.{star_of}

-- the part of the logical axioms that a method chooses for a seed, and the number of rounds: the bottom module or the top
-- module, which take one, or what the alternation of the two comes to
unfoldable pub chosen : Method → Scope → List Axiom → List Bool × ℕ
chosen method.Bot seed axioms = (module_of (fills_of class.Empty role.Empty) axioms (logical_flags axioms) seed, 1)
chosen method.Top seed axioms = (module_of (fills_of class.Full role.Full) axioms (logical_flags axioms) seed, 1)
chosen method.Star seed axioms = star_of bottom_and_top axioms seed (logical_flags axioms)

-- a flag for each axiom: what is shipped with that part
abbrev pub left_flags : Method → Scope → List Axiom → List Bool
left_flags method seed axioms = shipped_flags seed axioms (chosen method seed axioms).0

-- what is shipped is left, in its order and with its origins
unfoldable pub extracted : Method → Seed → OntologyState → OntologyState
extracted method seed before = record before { entries = flagged (left_flags method (scope_of seed.sig) (axioms_of before.entries)) before.entries }
