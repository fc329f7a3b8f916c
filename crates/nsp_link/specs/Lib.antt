-- What a contract sees of the types of this crate; the rules are in `dna_links`
pub mod Due
pub mod FailedArrival
pub mod FailedEvent
pub mod FailedSending
pub mod Fault
pub mod Given
pub mod Kinds
pub mod Missing
pub mod PartnerRules
pub mod Phases
pub mod Segments
pub mod View
pub mod inner
