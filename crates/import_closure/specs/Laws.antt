-- What loading amounts to. (Own.)
use Rattle.std.specs.Prelude.{◌≡◌, false, ℕ, List, [], ◌∷◌, map, Ok}
use Rattle.std.specs.List.{list_any}
use Rattle.std.specs.Str.{bytes_eq}
use Rattle.import_closure.specs.Closure.{Setting, closure}
use Rattle.import_closure.specs.declared.files.SourceFile.{SourceFile}

-- no name stands there twice
abbrev pub AreApart : List (List ℕ) → Type 0
AreApart [] = Unit {0}
AreApart (name ∷ names) = (list_any (bytes_eq name) names ≡ false) × AreApart names

-- each file is read once: one that imports itself, too, and files that import each other
abbrev pub EachIsReadOnce : Setting → List (List ℕ) → Type 0
EachIsReadOnce s inputs =
    (sources : List SourceFile) → (closure s inputs).answer ≡ Ok sources → AreApart (map (λ (source : SourceFile). source.name) sources)
