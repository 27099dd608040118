-- The far decoder's signal, read off its samples: the statement is Recovery. And that the comparison which looks for it blames no sound line: the statements are Sound and Faults.
pub mod Frames
pub mod Recovery
pub mod States
pub mod Sound
pub mod Faults
pub mod SlotLaws
pub mod Steps
pub mod Memory
