use Rattle.std.proofs.Common.{◌≡◌, Option, Some, None, MatchOption, ℕ, List, sym}
use Rattle.rel_io.specs.FileList.{FileList}
use Rattle.rel_io.specs.inner.Finding.{IsAbsent, IsFoundAt, place_of}
use Rattle.rel_io.proofs.Files.{place_of-absent, place_of-found}
use Rattle.rel_io.proofs.mem_folder.find_file.Goals as goal

tells : (files : FileList) (name : List ℕ) (r : Option ℕ) → place_of name files ≡ r → MatchOption r (IsAbsent files name) (IsFoundAt files name)
tells files name None e = place_of-absent files name e
tells files name (Some at) e = place_of-found files name at e

pub returns : goal.returns
returns c = tells _ _ _ (sym c.place_of.ensures)
