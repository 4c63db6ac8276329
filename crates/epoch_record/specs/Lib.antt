pub mod EpochRecord
