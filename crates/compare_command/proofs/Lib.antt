mod Compared
mod Drawings
mod Names
mod Pairs
