-- What a contract sees of the types of this crate; the rules are in `dna_station`
pub mod Arrival
pub mod PeriodRules
pub mod Permit
pub mod Sent
pub mod View
pub mod Failed
pub mod Told
pub mod inner
