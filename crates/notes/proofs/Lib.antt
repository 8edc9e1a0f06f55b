mod ToldNotes
mod Pasts
mod Rests
mod Examples
