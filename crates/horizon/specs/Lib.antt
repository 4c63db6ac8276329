-- The horizon's answer and the entries handed back; the public calls.
pub mod Horizon
pub mod Calls
pub mod Lent
