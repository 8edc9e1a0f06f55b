-- Frames: the commands of HP-GL/2.
pub mod Mnemonics
