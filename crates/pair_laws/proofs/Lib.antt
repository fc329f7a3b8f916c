pub mod StepTests
