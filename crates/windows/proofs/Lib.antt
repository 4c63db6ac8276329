-- Laws of the fitted windows of one satellite in their slots.
--
--   Lawful         the fit obeys the law that the theorem on final entries asks of it
--   CutNumbers     the code's way to the whole number above or below a number
--   Times          the start and the steps of a window's arc lie where the code takes their whole numbers
--   Arcs           the arc of a window shorter than 7,000 s
--   SlotStates     the states of a window in their slot
--   Filling        the windows' slots: what one window leaves, and that the slots before it stay
--   Meaning        the code's full attraction and look-up of states are those of the stage
--   StageWindows   what a window leaves by the code's force and look-up is what the stage's window leaves
pub mod Lawful
pub mod CutNumbers
pub mod Times
pub mod Arcs
pub mod SlotStates
pub mod Filling
pub mod Meaning
pub mod StageWindows
