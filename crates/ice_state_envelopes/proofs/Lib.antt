pub mod Numbers
pub mod Loop
pub mod Rising
pub mod Unions
pub mod Put
pub mod Bodies
pub mod Joins
pub mod Faults
