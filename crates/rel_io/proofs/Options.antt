-- A fact for the value of an option, if there is one, as an implication and back.
use Rattle.std.proofs.Common.{◌≡◌, Option, Some, None, IfSome, refl, subst}

-- the fact at a value that is there
pub at_some : {T : Type 0} (P : T → Type 0) {o : Option T} {x : T} → o ≡ Some x → IfSome o P → P x
at_some P e h = let Q : _ → Type 0 = λ o. IfSome o P in subst Q e h

-- the fact, where it holds of each value that may be there
pub if_some : {T : Type 0} (P : T → Type 0) (o : Option T) → ((x : T) → o ≡ Some x → P x) → IfSome o P
if_some P None h = tt
if_some P (Some x) h = h x refl

-- no value is there where there is none
pub none_there : {T : Type 0} {x : T} → None ≡ Some x → ⊥
none_there e = cc

-- values that are there are the same where the options are
pub same_there : {T : Type 0} {x y : T} → Some x ≡ Some y → x ≡ y
same_there e = cc
