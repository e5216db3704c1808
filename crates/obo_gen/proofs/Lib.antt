mod Lengths
mod Ranges
