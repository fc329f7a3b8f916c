-- What a reader must believe of a station: the causes of a NAK, its tables, the rule on periods, and how the tables are gone by
pub mod NakCauses
pub mod Table
pub mod PeriodRule
pub mod Book
pub mod ArrivalRows
-- the station on true numbers, and what the words of the tables mean there
pub mod Station
pub mod Truth
pub mod StationBook
-- the same as a program keeps it, and how the two go together
pub mod WireStation
pub mod WireBook
pub mod Cut
-- its node with the line, and two of them
pub mod Line
pub mod Machine
pub mod Node
pub mod Pair
pub mod WireNode
-- what holds in every run: the bounds of numbers, what is delivered, what was offered, and what two wire nodes show
pub mod Bounds
pub mod Delivery
pub mod Offered
pub mod Seen
-- what ghost members alone name: there is nothing in it to believe
pub mod inner
