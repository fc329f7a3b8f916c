-- words of private contracts and of proofs
pub mod Forms
