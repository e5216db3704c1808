pub mod NormLaws
