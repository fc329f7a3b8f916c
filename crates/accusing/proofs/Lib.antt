-- numbers modulo 256, and tests; which numbers passed as a RESP
pub mod Modulo
pub mod Resps
-- what may have been heard, and what can have begun a period, grow with what passes, and grow alike
pub mod Orders
pub mod Advanced
pub mod Beginnings
pub mod Tracking
-- what is said of a station by that, and what an arrival and a sending make of it
pub mod Fits
pub mod Arrivals
pub mod Outstanding
pub mod Sendings
-- RESP of a unit of bytes is a byte
pub mod Bytes
-- what is known by the units that passed covers the station, whatever it heard of them
pub mod Covering
pub mod Goes
pub mod Own
pub mod OwnData
-- so what refutes a station has no placing
pub mod Final
pub mod Histories
