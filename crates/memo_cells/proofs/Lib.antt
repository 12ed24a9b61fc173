mod Words
mod Keeps
mod Growth
mod Tells
