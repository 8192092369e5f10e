-- What the contracts of the agendas cite.
pub mod Waiting
pub mod Orders
pub mod Rings
