use Rattle.std.proofs.Common.{◌≡◌, ◌++◌, ℕ, List, Some, subst, sym}
use Rattle.std.specs.Option.{option_map}
use Rattle.seed_list.specs.Terms.{line_says}
use Rattle.seed_list.proofs.LineLemmas.{ReadSoFar, read_begins, read_goes_on}
use Rattle.seed_list.proofs.terms.read_iris.Goals as goal

pub loop-left-init : goal.loop-left-init
loop-left-init c =
    let bytes = c.args.bytes.now in
    subst (λ (iris : List (List ℕ)). ReadSoFar c.args.ontology.now c.args.lines bytes iris 1 bytes) (sym c.new-iris.ensures.items) (read_begins c.args.ontology.now c.args.lines bytes)

pub loop-left-preserved : goal.loop-left-preserved
loop-left-preserved c =
    let ontology = c.args.ontology.now in
    let number = c.loop-left.number in
    let old = c.loop-left.iris.items in
    let new = c.read_line.new.iris.items in
    let said = subst (λ (line : List ℕ). option_map (λ (more : List (List ℕ)). old ++ more) (line_says ontology c.args.lines number line) ≡ Some new) c.without_return.ensures c.in_ok-read_line.ensures in
    read_goes_on ontology c.args.lines c.args.bytes.now old new number c.loop-left.left.now c.cut_line.result.0.now c.cut_line.result.1.now c.loop-left.invariant c.cut_line.ensures.cut c.cut_line.ensures.shorter said
