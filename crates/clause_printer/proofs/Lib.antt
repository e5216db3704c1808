pub mod LoopLemmas
pub mod PrintedBlocks
pub mod PrintedLines
pub mod PrintedParts
pub mod PrintedRuns
pub mod SpelledFits
pub mod SpelledMarks
pub mod TextCuts
