pub mod WholeRoot
pub mod EvenPowers
pub mod RootRounding
pub mod RootCases
pub mod RootNearest
pub mod RootOrder
