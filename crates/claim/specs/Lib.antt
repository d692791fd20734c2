pub mod DemandThree
pub mod StationHistory
pub mod WidestHistory
pub mod WholeRun
pub mod NeverWritten
pub mod LaidPasses
pub mod PremisesMet
