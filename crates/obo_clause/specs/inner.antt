pub mod FitTests
