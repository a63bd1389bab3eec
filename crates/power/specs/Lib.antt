pub mod Table
pub mod Rules
pub mod Power
pub mod Log
pub mod Rising
pub mod Stages
pub mod Decimal
